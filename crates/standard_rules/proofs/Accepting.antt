-- The test `fits` gives each fact of the paragraph "Map".
-- Assumes nothing.
use mathlib.Core.Path.{◌≡◌, sym}
use mathlib.Core.Bool.{◌&&◌, ◌||◌}
use mathlib.Core.List.{◌++◌}
use Prim.Native.Nat.{ℕ, suc, ◌+◌, ◌<◌}
use native.Mathlib.Decide.{dec_lt}
use native.Mathlib.Omega.{arith}
use lib.ListN.{length, get_or, length-map, get_or-map}
use lib.Dec.{T, leb, eqb, leb→le, eqb→eq, eqb_refl, ltb→lt}
use store.Enc.{and_l, and_r}
use Rattle.bytes_at.specs.Lists.{all, all_from, pairs, all_apart, unlike, below}
use Rattle.bytes_at.proofs.Tests.{all_at, all_from_at, pairs_at, or_cases, then, both, unlike_not}
use Rattle.bytes_at.proofs.MoreTests.{all_append}
use Rattle.bytes_at.proofs.Apart.{all_below, apart_below, one_place, front_apart, back_apart, both_apart, front_back}
use Rattle.standard_rules.specs.Map.{Map, no_map_set, no_map_column, set_at, column_at, covers, set_fits, count_fits, set_known, extent_of, extents, in_bucket, clear, Meet, data_of, used, fits, bucket_of, Kept, MapAccepted}
use Rattle.standard_rules.proofs.Entries.{Spans, covers_at, covers_end}
use Rattle.standard_rules.proofs.DataBuckets.{data_at, data_once}

-- ---- the extents of a map are those of its columns
module _ (m : Map) where
  pub extent_at_lem : (c : ℕ) → get_or (extents m) c (extent_of m no_map_column) ≡ extent_of m (column_at m c)
  extent_at_lem c = get_or-map (extent_of m) m.columns c no_map_column

  pub extents_length : length (extents m) ≡ length m.columns
  extents_length = length-map m.columns (extent_of m)

module _ (m : Map) (t : T (fits m)) where
  -- ---- the test's parts
  sets_fit : T (all (set_fits m.rows) m.sets)
  unfolding fits
  sets_fit = search (and_l, and_r)

  counts_fit_lem : T (all_from (count_fits m.columns) 0 m.sets)
  unfolding fits
  counts_fit_lem = search (and_l, and_r) depth 8

  sets_known : T (all (set_known (length m.sets)) m.columns)
  unfolding fits
  sets_known = search (and_l, and_r)

  extents_inside : T (all (in_bucket m.size) (extents m))
  unfolding fits
  extents_inside = search (and_l, and_r)

  extents_clear : T (pairs clear (extents m))
  unfolding fits
  extents_clear = search (and_l, and_r)

  used_apart : T (all_apart m.count (used m))
  unfolding fits
  used_apart = search (and_l, and_r)

  -- ---- a set
  set_fits_lem : (k : ℕ) → k < length m.sets → T (set_fits m.rows (set_at m k))
  set_fits_lem k h = all_at (set_fits m.rows) m.sets no_map_set sets_fit k h

  pub set_covers : (k : ℕ) → k < length m.sets → T (covers m.rows (set_at m k).rows_per 0 (set_at m k).lasts)
  set_covers k h = let f = set_fits_lem k h in search and_l

  set_spans : (k e : ℕ) → k < length m.sets → e < length (set_at m k).lasts → Spans (set_at m k).rows_per 0 (set_at m k).lasts e
  set_spans k e h l = covers_at m.rows (set_at m k).rows_per 0 (set_at m k).lasts (set_covers k h) e l

  set_counts : (k : ℕ) → k < length m.sets → T (count_fits m.columns k (set_at m k))
  set_counts k h =
      let e : k + 0 ≡ k = omega arith in
      rw e at (all_from_at (count_fits m.columns) 0 m.sets no_map_set counts_fit_lem k h)

  -- ---- a column's extent
  inside : (c : ℕ) → Kept m c → T (leb (extent_of m (column_at m c)).end m.size)
  unfolding in_bucket
  inside c k =
      then (column_at m c).kept _
      (rw (extent_at_lem m c) at (all_at (in_bucket m.size) (extents m) (extent_of m no_map_column) extents_inside c (omega (arith, extents_length m, k.known))))
      k.here

  clear_at : (c d : ℕ) → c < d → Kept m d → T (clear (extent_of m (column_at m c)) (extent_of m (column_at m d)))
  clear_at c d h k =
      rw (extent_at_lem m c, extent_at_lem m d) at (pairs_at clear (extents m) (extent_of m no_map_column) extents_clear c d h (omega (arith, extents_length m, k.known)))

  apart_from : (c d : ℕ) → c < d → Kept m c → Kept m d → (column_at m c).set ≡ (column_at m d).set
      → Meet (extent_of m (column_at m c)) (extent_of m (column_at m d)) → ⊥
  unfolding clear
  apart_from c d h k k' s b =
      let x = extent_of m (column_at m c) in
      let y = extent_of m (column_at m d) in
      let l = leb x.end y.start in
      let r = leb y.end x.start in
      let same : T (x.kept && y.kept && eqb x.set y.set) = both (x.kept && y.kept) (eqb x.set y.set) (both x.kept y.kept k.here k'.here) (rw s (eqb_refl y.set)) in
      or_cases l r (then (x.kept && y.kept && eqb x.set y.set) (l || r) (clear_at c d h k') same)
      (λ v. omega (arith, leb→le x.end y.start v))
      (λ v. omega (arith, leb→le y.end x.start v))

  columns_apart : (c d : ℕ) → (c ≡ d → ⊥) → Kept m c → Kept m d → (column_at m c).set ≡ (column_at m d).set
      → Meet (extent_of m (column_at m c)) (extent_of m (column_at m d)) → ⊥
  columns_apart c d n k k' s b = elim (dec_lt c d) [
    | yes l ↦ apart_from c d l k k' s b
    | no l ↦ apart_from d c (omega arith) k' k (sym s) (record { one = b.other; other = b.one })
  ]

  -- ---- the buckets: the rule holds of the data buckets, of the index buckets and of the free buckets, and of each two of the three
  data_rule : T (all_apart m.count (data_of m.sets))
  data_rule = front_apart m.count (data_of m.sets) (m.index ++ m.free) used_apart

  chains_rule : T (all_apart m.count (m.index ++ m.free))
  chains_rule = back_apart m.count (data_of m.sets) (m.index ++ m.free) used_apart

  index_rule : T (all_apart m.count m.index)
  index_rule = front_apart m.count m.index m.free chains_rule

  free_rule : T (all_apart m.count m.free)
  free_rule = back_apart m.count m.index m.free chains_rule

  off_chains : (k e : ℕ) → k < length m.sets → e < length (set_at m k).buckets → T (all (unlike (bucket_of m k e)) m.index && all (unlike (bucket_of m k e)) m.free)
  off_chains k e h l =
      rw (all_append (unlike (bucket_of m k e)) m.index m.free)
      at (data_at (λ b. all (unlike b) (m.index ++ m.free)) m.sets (both_apart m.count (data_of m.sets) (m.index ++ m.free) used_apart) k e (h, l))

  off_index : (k e : ℕ) → k < length m.sets → e < length (set_at m k).buckets → T (all (unlike (bucket_of m k e)) m.index)
  off_index k e h l = and_l (all (unlike (bucket_of m k e)) m.index) (all (unlike (bucket_of m k e)) m.free) (off_chains k e h l)

  off_free : (k e : ℕ) → k < length m.sets → e < length (set_at m k).buckets → T (all (unlike (bucket_of m k e)) m.free)
  off_free k e h l = and_r (all (unlike (bucket_of m k e)) m.index) (all (unlike (bucket_of m k e)) m.free) (off_chains k e h l)

  pub accepted : MapAccepted m
  accepted =
      record {
        paired = λ k h. let f = set_fits_lem k h in eqb→eq _ _ (search and_r);
        rise = λ k e h l. omega (arith, set_spans k (suc e) h l);
        span = λ k e h l. omega (arith, set_spans k e h (omega arith));
        reach = λ k h. covers_end m.rows (set_at m k).rows_per 0 (set_at m k).lasts (set_covers k h);
        counted = λ k h. eqb→eq _ _ (set_counts k h);
        set_known = λ c k. ltb→lt _ _ (then (column_at m c).kept _ (all_at (set_known (length m.sets)) m.columns no_map_column sets_known c k.known) k.here);
        in_bucket = λ c k. leb→le _ _ (inside c k);
        extents_apart = columns_apart;
        data_below = λ k e h l. ltb→lt _ _ (data_at (below m.count) m.sets (all_below m.count (data_of m.sets) data_rule) k e (h, l));
        index_below = apart_below m.count m.index index_rule;
        free_below = apart_below m.count m.free free_rule;
        data_apart = λ k l e f h g i j q. data_once m.count m.sets data_rule k l e f (h, i) (g, j) q;
        index_apart = one_place m.count m.index index_rule;
        free_apart = one_place m.count m.free free_rule;
        data_index = λ k e i h l j. unlike_not _ _ (all_at (unlike (bucket_of m k e)) m.index 0 (off_index k e h l) i j);
        data_free = λ k e i h l j. unlike_not _ _ (all_at (unlike (bucket_of m k e)) m.free 0 (off_free k e h l) i j);
        index_free = front_back m.count m.index m.free chains_rule;
      }
