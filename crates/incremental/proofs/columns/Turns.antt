-- The loop over the columns of a table: what a turn gives.
-- Assumes nothing.
use mathlib.Core.Path.{◌≡◌, refl, sym, ap, ◌∙◌}
use mathlib.Core.List.{List, ◌∷◌}
use Prim.Native.Nat.{ℕ, ◌+◌, ◌≤◌, ◌<◌}
use native.Mathlib.Omega.{arith}
use lib.ListN.{length, get_or, set}
use Rattle.std.proofs.Common.{drop, length-drop}
use Rattle.std.proofs.lemmas.List.{drop_more}
use borrow.Author.Tests.{eq-eqb, ne_eqb}
use Rattle.table_rules.specs.declared.Column.{Column}
use Rattle.table_rules.specs.ColumnDesc.{no_column}
use Rattle.table_rules.specs.declared.Binding.{Binding}
use Rattle.table_rules.specs.ColumnSet.{no_binding}
use Rattle.incremental_rules.specs.declared.Cells.{Cells}
use Rattle.incremental_rules.specs.Bucket.{cell_bytes, cell_into}

-- element k of a list, and what is left after it
pub record Taken {A : Type 0} (xs : List A) (k : ℕ) (d x : A) (left : List A) (next : ℕ) : Type 0 where
  pub here : k < length xs
  pub is : get_or xs k d ≡ x
  pub others : left ≡ drop next xs

-- a list's rest from place k on: a turn takes its first element off, and none is left past the end
module _ {A : Type 0} (xs : List A) {k : ℕ} {rest : List A} (e : rest ≡ drop k xs) where
  pub rest_turn : (d : A) {x : A} {left : List A} {next : ℕ} → rest ≡ x ∷ left → next ≡ k + 1 → Taken xs k d x left next
  rest_turn d {x} {left} p q =
      let t : drop k xs ≡ x ∷ left = sym e ∙ p in
      let l : k < length xs = omega (arith, length-drop k xs, ap length t) in
      let m : get_or xs k d ∷ drop (k + 1) xs ≡ x ∷ left = sym (drop_more xs k d l) ∙ t in
      record { here = l; is = ap (λ (y : List A). get_or y 0 d) m; others = rw q (sym (ap (drop 1) m)) }

  pub rest_end : length rest ≡ 0 → length xs ≤ k
  rest_end z = omega (arith, length-drop k xs, ap length e)

module _ (cs : List Column) (bs : List Binding) (sequence position : ℕ) (cells : Cells) (k : ℕ) {new : Cells} where
  -- a column of the file: the one that is asked for, and another
  module _ (h : (get_or bs k no_binding).sequence ≡ sequence) {v : ℕ} (p : v ≡ cell_bytes (get_or cs k no_column)) {mid : Cells}
      (q : new ≡ record { bytes = mid.bytes; count = mid.count + 1; column = mid.column }) where
    pub cell_asked : k ≡ position → mid ≡ record { bytes = set cells.bytes cells.count v; count = cells.count; column = cells.count }
        → new ≡ cell_into cs bs sequence position cells k
    unfolding cell_into
    cell_asked z m = q ∙ rw (m, eq-eqb _ _ h, eq-eqb k position z, p) refl

    pub cell_other : (k ≡ position → ⊥) → mid ≡ record { bytes = set cells.bytes cells.count v; count = cells.count; column = cells.column }
        → new ≡ cell_into cs bs sequence position cells k
    unfolding cell_into
    cell_other z m = q ∙ rw (m, eq-eqb _ _ h, ne_eqb k position z, p) refl

  pub cell_off : ((get_or bs k no_binding).sequence ≡ sequence → ⊥) → new ≡ cells → new ≡ cell_into cs bs sequence position cells k
  unfolding cell_into
  cell_off h q = q ∙ rw (ne_eqb _ _ h) refl
