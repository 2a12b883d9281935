-- The columns of a table by position, and the loop that places them. Assumes nothing.
use mathlib.Core.Path.{◌≡◌, refl, sym, ap, ◌∙◌}
use mathlib.Core.Bool.{Bool, true, false, ◌&&◌}
use mathlib.Core.List.{List, [], ◌∷◌, ◌++◌}
use Prim.Native.Nat.{ℕ, zero, suc, ◌+◌, ◌<◌}
use native.Mathlib.Numerals.{add-one}
use native.Mathlib.Omega.{arith}
use lib.ListN.{length, get_or, set, take, replicate, length-set, length-replicate}
use lib.Dec.{ltb}
use Rattle.bytes_at.specs.Lists.{◌⇒◌, all}
use Rattle.table_rules.specs.declared.Column.{Column}
use Rattle.table_rules.specs.declared.Binding.{Binding}
use Rattle.table_rules.specs.ColumnDesc.{no_column}
use Rattle.table_rules.specs.ColumnSet.{no_binding}
use Rattle.standard_rules.specs.declared.Set.{Set}
use Rattle.standard_rules.specs.declared.Extent.{Extent}
use Rattle.standard_rules.specs.Map.{MapColumn, map_column, columns_from, set_known, in_bucket}
use Rattle.standard.specs.Columns.{per_of, extent_by, extents_by}
use Rattle.standard.proofs.columns.Listed.{listed, listed_more, all_more, all_stop, all_both, all_map}

-- the column at a position
abbrev pub column_in : ℕ → List Column → List Binding → ℕ → MapColumn
column_in sequence cs bs j = map_column sequence (get_or cs j no_column) (get_or bs j no_binding)

pub from_listed : (sequence : ℕ) (cs : List Column) (bs : List Binding) (n i : ℕ) → columns_from sequence cs bs n i ≡ listed (column_in sequence cs bs) n i
unfolding columns_from listed
from_listed sequence cs bs zero i = refl
from_listed sequence cs bs (suc n) i = ap (λ l. column_in sequence cs bs i ∷ l) (from_listed sequence cs bs n (suc i))

-- one element more
take_set : {A : Type 0} (xs : List A) (i : ℕ) (x : A) → i < length xs → take (suc i) (set xs i x) ≡ take i xs ++ x ∷ []
take_set [] i x h = absurd (omega arith)
take_set (y ∷ xs) zero x h = refl
take_set (y ∷ xs) (suc i) x h = ap (λ l. y ∷ l) (take_set xs i x (omega arith))

-- the first i columns are placed
module _ (f : ℕ → MapColumn) (sets : List Set) (size : ℕ) where
  abbrev pub placed_in : MapColumn → Bool
  placed_in c = set_known (length sets) c && in_bucket size (extent_by (per_of sets) c)

  pub record Placing (extents : List Extent) (i : ℕ) : Type 0 where
    pub long : length extents ≡ 64
    pub places : take i extents ≡ listed (λ j. extent_by (per_of sets) (f j)) i 0
    pub fit : all placed_in (listed f i 0) ≡ true

  pub placing_start : (x : Extent) → Placing (replicate 64 x) 0
  unfolding listed all
  placing_start x = record { long = length-replicate 64 x; places = refl; fit = refl }

  module _ {extents : List Extent} {i : ℕ} (v : Placing extents i) {x : Extent} {r : Bool} (e : x ≡ extent_by (per_of sets) (f i))
      (p : r ≡ ((x.kept ⇒ ltb x.set (length sets)) && in_bucket size x)) where
    same : r ≡ placed_in (f i)
    same = p ∙ ap (λ (y : Extent). (y.kept ⇒ ltb y.set (length sets)) && in_bucket size y) e

    pub placing_again : i < 64 → r ≡ true → Placing (set extents i x) (i + 1)
    placing_again h t =
        let z : i + 0 ≡ i = omega arith in
        record {
          long = length-set extents i x ∙ v.long;
          places = rw add-one (take_set extents i x (omega (arith, v.long)) ∙ rw (v.places, e) (sym (listed_more (λ j. extent_by (per_of sets) (f j)) i 0 ∙ rw z)));
          fit = rw add-one (all_more f placed_in i 0 ∙ rw (v.fit, z, ← same) t);
        }

    pub placing_stop : (n : ℕ) → i < n → r ≡ false → all placed_in (listed f n 0) ≡ false
    placing_stop n h t = let z : i + 0 ≡ i = omega arith in all_stop f placed_in n 0 i h (rw z (sym same ∙ t))

  -- of a list of columns
  pub placed_test : (l : List MapColumn) → all placed_in l ≡ (all (set_known (length sets)) l && all (in_bucket size) (extents_by sets l))
  placed_test l =
      all_both (set_known (length sets)) (λ c. in_bucket size (extent_by (per_of sets) c)) l
      ∙ ap (λ b. all (set_known (length sets)) l && b) (sym (all_map (in_bucket size) (extent_by (per_of sets)) l))
