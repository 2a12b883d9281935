-- The search in an accepted file: where it ends, and how many last rows it looks at.
-- Assumes nothing.
use mathlib.Core.Path.{◌≡◌, sym}
use mathlib.Core.Bool.{◌&&◌}
use mathlib.Core.List.{List}
use Prim.Native.Nat.{ℕ, zero, suc, ◌-◌, ◌*◌, ◌≤◌, ◌<◌}
use native.Mathlib.Decide.{ℕ_discrete}
use native.Mathlib.Omega.{arith}
use lib.ListN.{length, get_or}
use lib.Dec.{T, eqb, ltb, leb, eqb→eq, leb→le}
use store.Enc.{and_l, and_r}
use borrow.Author.Tests.{eq-eqb, ne_eqb}
use Rattle.table_rules.specs.declared.Description.{Description}
use Rattle.standard_rules.specs.Header.{header_at}
use Rattle.standard_rules.specs.Index.{chain_ok, chain_holds, offset_ok, index_ok}
use Rattle.standard_rules.specs.Map.{Map, set_at, column_at, Kept, covers, bucket_of, MapAccepted, map_with, map_of}
use Rattle.standard_rules.specs.Check.{Accepted}
use Rattle.standard_rules.specs.Looks.{FindsEntry, EverySearch}
use Rattle.standard_rules.proofs.Counted.{at_most, links_long}
use Rattle.standard_rules.proofs.HeaderBounds.{header_bounds}
use Rattle.standard_rules.proofs.Accepting.{set_covers}
use Rattle.standard_rules.proofs.Fitting.{map_exactly}
use Rattle.standard_rules.proofs.Columns.{map_rows}
use Rattle.standard_rules.proofs.Halving.{search_entry, looks_few, length_most}

-- ---- a set has fewer entries than the file has buckets: each has a bucket, and so has the index
module _ (m : Map) (a : MapAccepted m) (k : ℕ) (known : k < length m.sets) (i : 0 < length m.index) where
  -- an index bucket, then the set's buckets
  abbrev taken : ℕ → ℕ
  taken zero = get_or m.index 0 0
  taken (suc e) = bucket_of m k e

  taken_below : (e : ℕ) → e < suc (length (set_at m k).buckets) → taken e < m.count
  taken_below zero h = a.index_below 0 i
  taken_below (suc e) h = a.data_below k e known (omega arith)

  taken_once : (e g : ℕ) → e < g → g < suc (length (set_at m k).buckets) → taken e ≡ taken g → ⊥
  taken_once e zero l h q = absurd (omega arith)
  taken_once zero (suc g) l h q = a.data_index k g 0 known (omega arith) i (sym q)
  taken_once (suc e) (suc g) l h q = omega (arith, (a.data_apart k k e g known known (omega arith) (omega arith) q).1)

  pub few_entries : length (set_at m k).lasts < m.count
  few_entries = omega (arith, at_most m.count (suc (length (set_at m k).buckets)) taken taken_below taken_once, a.paired k known)

-- ---- an accepted index has a bucket, since its text is not empty
some_chain : (f : List ℕ) (size nb k b n : ℕ) → 1 ≤ n → T (chain_holds f size nb k b n) → 0 < k
unfolding chain_holds
some_chain f size nb zero b n h t = absurd (omega (arith, leb→le n (zero * (size - 8)) (and_r (chain_ok f size nb zero b) (leb n (zero * (size - 8))) t)))
some_chain f size nb (suc k) b n h t = omega arith

one_bucket : (size nb k b offset n : ℕ) → T (offset_ok size nb k b offset n) → k ≡ 1
unfolding offset_ok
one_bucket size nb k b offset n t = eqb→eq k 1 (and_l (eqb k 1) (ltb b nb) (and_l (eqb k 1 && ltb b nb) _ t))

some_index : (f : List ℕ) (size nb k b offset n : ℕ) → 1 ≤ n → T (index_ok f size nb k b offset n) → 0 < k
unfolding index_ok
some_index f size nb k b offset n h t = elim (ℕ_discrete offset 0) [
  | yes e ↦ some_chain f size nb k b n h (rw (eq-eqb offset 0 e) at t)
  | no e ↦ omega (arith, one_bucket size nb k b offset n (rw (ne_eqb offset 0 e) at t))
]

-- ---- the search for a row of a kept column
module _ (d : Description) (sequence : ℕ) (f : List ℕ) (l row c : ℕ) (a : Accepted d sequence f l) (h : row < d.rows)
    (k : Kept (map_of d sequence f) c) where
  abbrev m : Map
  m = map_of d sequence f

  abbrev s : ℕ
  s = (column_at m c).set

  known : s < length m.sets
  known = a.map.set_known c k

  covered : T (covers m.rows (set_at m s).rows_per 0 (set_at m s).lasts)
  covered = set_covers m ((map_exactly m).1 a.map) s known

  index_known : 0 < length m.index
  unfolding map_with
  index_known =
      rw (links_long f (header_at f d.big).size (header_at f d.big).index_count (header_at f d.big).first_index)
      (some_index f _ _ _ _ _ _ ((header_bounds f d.big).length_least a.header) a.index)

  count_most : m.count ≤ 4096
  unfolding map_with
  count_most = (header_bounds f d.big).count_most

  entries_most : length (set_at m s).lasts ≤ 4095
  entries_most = omega (arith, few_entries m a.map s known index_known, count_most)

  finds : FindsEntry m row c
  finds = record {
    ends = search_entry m.rows (set_at m s).rows_per (set_at m s).lasts row covered (rw map_rows h);
    few = record {
      bounded = looks_few (set_at m s).lasts row;
      none = λ e. omega (arith, looks_few (set_at m s).lasts row, length_most (length (set_at m s).lasts - 1) 0 (omega arith));
      most = omega (arith, looks_few (set_at m s).lasts row, length_most (length (set_at m s).lasts - 1) 12 (omega (arith, entries_most)));
      most_entries = entries_most;
    };
  }

pub every_search : EverySearch
every_search d sequence f l row c a h k = finds d sequence f l row c a h k
