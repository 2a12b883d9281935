-- A ColumnDesc up to its keyword set: a reader that is not refused gives the same in a larger container.
-- Assumes nothing.
use mathlib.Core.Path.{refl}
use mathlib.Core.List.{List}
use mathlib.Core.Bool.{Bool, true, false}
use Prim.Native.Nat.{ℕ}
use Rattle.bytes_at.specs.Steps.{◌>>=◌}
use Rattle.aipsio_rules.specs.declared.Cursor.{Cursor}
use Rattle.aipsio_rules.specs.Field.{code_at, settled}
use Rattle.aipsio_rules.proofs.Kept.{Clean, clean_before}
use Rattle.aipsio_rules.proofs.Wider.{Wide, WiderValue, settled_wide, judged_value, wide_either, uint_wide, ranged_wide, string_wide, iposition_wide, shape_wide}
use Rattle.table_rules.specs.ColumnDesc.{is_fixed, options_fit, dimensions_fit, notes_at, options_at, dimensions_at, elements_at, layout_at}
use Rattle.table_rules.proofs.TableForward.{dimensions_forward, elements_forward}

module _ (s : List ℕ) {c d : Cursor} (w : Wide c d) where
  pub notes_wide : Wide (notes_at s c) (notes_at s d)
  unfolding notes_at ◌>>=◌
  notes_wide = string_wide s (string_wide s (string_wide s w 0 4096) 0 4096) 0 4096

  options_wide : (array : Bool) → Clean (options_at s c array).next → WiderValue (options_at s c array) (options_at s d array)
  unfolding options_at settled ◌>>=◌
  options_wide array = judged_value (ranged_wide s w 4 0 7 4) _ _ (options_fit array) 4

  dimensions_wide : (array : Bool) → Clean (dimensions_at s c array).next → WiderValue (dimensions_at s c array) (dimensions_at s d array)
  unfolding dimensions_at settled ◌>>=◌
  dimensions_wide array = judged_value (uint_wide s w) _ _ (dimensions_fit array) 4

  elements_wide : (array : Bool) (options dimensions : ℕ) → Clean (elements_at s c array options dimensions).next
      → WiderValue (elements_at s c array options dimensions) (elements_at s d array options dimensions)
  unfolding elements_at settled ◌>>=◌
  elements_wide true options dimensions = wide_either (is_fixed options) (shape_wide s w dimensions) (settled_wide (iposition_wide s w) (λ _. refl))
  elements_wide false options dimensions = settled_wide w (λ _. refl)

pub layout_wide : (s : List ℕ) {c d : Cursor} → Wide c d → (array : Bool) (number : ℕ)
    → Wide (layout_at s c array number).next (layout_at s d array number).next
unfolding layout_at ◌>>=◌
layout_wide s {c} w array number e =
    let n = code_at s c number number in
    let o = options_at s n.next array in
    let options = options_wide s (λ h. (ranged_wide s w 4 number number 4 h).next) array in
    let dimensions = dimensions_wide s (λ h. (options h).next) array in
    let h : Clean (dimensions_at s o.next array).next = clean_before (elements_forward {B = 0} s _ array _ _).keeps e in
    let k : Clean o.next = clean_before (dimensions_forward {B = 0} s _ array).keeps h in
    rw (← (options k).value, ← (dimensions h).value) (elements_wide s (λ x. (dimensions x).next) array _ _ e).next
