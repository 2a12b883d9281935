-- The test of the columns from its parts, in the order in which the code decides them.
-- Assumes nothing.
use mathlib.Core.Path.{◌≡◌, sym, ap, ◌∙◌}
use mathlib.Core.Bool.{Bool, true, false}
use mathlib.Core.List.{List}
use Prim.Native.Nat.{ℕ}
use Rattle.bytes_at.specs.Lists.{all, pairs}
use Rattle.standard_rules.specs.declared.Set.{Set}
use Rattle.standard_rules.specs.declared.Extent.{Extent}
use Rattle.standard_rules.specs.Map.{MapColumn, columns_from, clear}
use Rattle.table_rules.specs.declared.Column.{Column}
use Rattle.table_rules.specs.declared.Binding.{Binding}
use Rattle.standard.specs.Columns.{per_of, extent_by, counts_fit, columns_test}
use Rattle.standard.proofs.columns.Listed.{listed, listed_map}
use Rattle.standard.proofs.columns.Placing.{column_in, from_listed, placed_in, placed_test}

module _ (sequence : ℕ) (cs : List Column) (bs : List Binding) (n : ℕ) (sets : List Set) (size : ℕ) where
  abbrev l : List MapColumn
  l = listed (column_in sequence cs bs) n 0

  abbrev whole : Bool
  whole = columns_test (columns_from sequence cs bs n 0) sets size

  listed_test : whole ≡ columns_test l sets size
  listed_test = ap (λ x. columns_test x sets size) (from_listed sequence cs bs n 0)

  pub not_placed : all (placed_in (column_in sequence cs bs) sets size) l ≡ false → false ≡ whole
  unfolding columns_test
  not_placed x = sym (listed_test ∙ rw (sym (placed_test (column_in sequence cs bs) sets size l) ∙ x))

  module _ (x : all (placed_in (column_in sequence cs bs) sets size) l ≡ true) {same : Bool} (q : same ≡ counts_fit l 0 sets) where
    pub not_counted : same ≡ false → false ≡ whole
    unfolding columns_test
    not_counted y = sym (listed_test ∙ rw (sym (placed_test (column_in sequence cs bs) sets size l) ∙ x, ← q, y))

    pub together : same ≡ true → {apart : Bool} {xs : List Extent} → apart ≡ pairs clear xs
        → xs ≡ listed (λ j. extent_by (per_of sets) (column_in sequence cs bs j)) n 0 → apart ≡ whole
    unfolding columns_test
    together y a e =
        a ∙ ap (pairs clear) (e ∙ sym (listed_map (column_in sequence cs bs) (extent_by (per_of sets)) n 0))
        ∙ sym (listed_test ∙ rw (sym (placed_test (column_in sequence cs bs) sets size l) ∙ x, ← q, y))
