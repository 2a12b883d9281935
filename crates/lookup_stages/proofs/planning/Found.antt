-- The kind of the manager that is found first, and the one where none is. Assumes nothing.
use mathlib.Core.Path.{◌≡◌, refl, sym}
use mathlib.Core.Bool.{Bool, true, false, cond}
use mathlib.Core.List.{List, ◌∷◌}
use Prim.Native.Nat.{ℕ, zero, suc, ◌+◌, ◌≤◌}
use native.Mathlib.Omega.{arith}
use lib.Dec.{eqb, ltb}
use lib.ListN.{length, get_or, take, drop}
use borrow.Author.Tests.{lt-ltb, le-ltb}
use Rattle.std.proofs.Common.{Option, Some, None}
use Rattle.std.specs.List.{find}
use Rattle.bytes_at.specs.Lists.{first_from}
use Rattle.standard.proofs.Each.{drop_at}
use Rattle.table_rules.specs.declared.Manager.{Manager}
use Rattle.table_rules.specs.declared.Kind.{Kind}
use Rattle.table_rules.specs.declared.Kind.TheVariants.{Other}
use Rattle.table_rules.specs.ColumnSet.{no_manager}
use Rattle.lookup_rules.specs.Questions.{kind_with}

-- the kind of what a search found
abbrev pub kind_of : Option Manager → Kind
kind_of None = Other
kind_of (Some m) = m.kind

module _ (managers : List Manager) (sequence : ℕ) where
  abbrev pub has : Manager → Bool
  has m = eqb m.number sequence

  abbrev at_place : ℕ → Bool
  at_place i = has (get_or managers i no_manager)

  abbrev kind_at : ℕ → ℕ → Kind
  kind_at past k = cond (ltb k past) (get_or managers k no_manager).kind Other

  -- of k managers from place i on
  found_from : (k i : ℕ) → i + k ≤ length managers → kind_of (find has (take k (drop i managers))) ≡ kind_at (i + k) (first_from at_place k i)
  unfolding first_from
  found_from zero i h = sym (rw (le-ltb i (i + 0) (omega arith)))
  found_from (suc k) i h =
      let e : i + 1 ≡ suc i = omega arith in
      rw (drop_at no_manager managers i (omega arith), e) (go (at_place i) refl (found_from k (suc i) (omega arith)))
    where
      go : (b : Bool) → at_place i ≡ b → kind_of (find has (take k (drop (suc i) managers))) ≡ kind_at (suc i + k) (first_from at_place k (suc i))
          → kind_of (find has (get_or managers i no_manager ∷ take k (drop (suc i) managers))) ≡ kind_at (i + suc k) (cond (at_place i) i (first_from at_place k (suc i)))
      go true q v = rw (q, lt-ltb i (i + suc k) (omega arith))
      go false q v = let z : i + suc k ≡ suc i + k = omega arith in rw (q, z) v

  pub found_kind : (n : ℕ) → n ≤ length managers → kind_of (find has (take n managers)) ≡ kind_with managers n sequence
  unfolding kind_with
  found_kind n h = let z : 0 + n ≡ n = omega arith in rw z at (found_from n 0 (omega arith))
