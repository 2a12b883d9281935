-- Cell bits are never 0 in a table that is not refused: a scalar has one element, a direct array a fixed shape, whose axes are
-- at least 1, and other arrays have 64 bits.
-- Assumes nothing.
use mathlib.Core.Path.{◌≡◌, refl}
use mathlib.Core.List.{List}
use mathlib.Core.Bool.{Bool, true, false, cond}
use Prim.Native.Nat.{ℕ, ◌*◌, ◌<◌}
use native.Mathlib.Decide.{ℕ_discrete}
use native.Mathlib.Nat.{mul-pos, pos_of_ne-zero}
use native.Mathlib.Omega.{arith}
use lib.Dec.{eqb, lit<}
use borrow.Author.Tests.{eq-eqb, ne_eqb}
use Rattle.bytes_at.specs.Steps.{◌>>=◌}
use Rattle.aipsio_rules.specs.declared.Cursor.{Cursor}
use Rattle.aipsio_rules.specs.Field.{code_at, settled}
use Rattle.aipsio_rules.proofs.Kept.{Clean, clean_before}
use Rattle.aipsio_rules.proofs.Accepted.{judged_passed}
use Rattle.aipsio_rules.proofs.Forward.{◌⊳◌}
use Rattle.aipsio_rules.proofs.ObjectAccepted.{settled_some, shape_some}
use Rattle.table_rules.specs.declared.data_type.DataType.{DataType}
use Rattle.table_rules.specs.declared.Column.{Column}
use Rattle.table_rules.specs.declared.ColumnHead.{ColumnHead}
use Rattle.table_rules.specs.DataType.{element_bits}
use Rattle.table_rules.specs.ColumnDesc.{is_direct, is_fixed, options_fit, options_at, elements_at, layout_at, cell_bits, column_rest_at}
use Rattle.table_rules.specs.Table.{EveryColumnHasBits}
use Rattle.table_rules.proofs.EachColumn.{each_column}
use Rattle.table_rules.proofs.TableForward.{dimensions_forward, elements_forward, tail_forward}

-- ---- the elements of a column
-- a scalar, and an array with a fixed shape
module _ (s : List ℕ) (c : Cursor) (options dimensions : ℕ) where
  scalar_some : Clean (elements_at s c false options dimensions).next → 0 < (elements_at s c false options dimensions).value
  unfolding elements_at
  scalar_some = settled_some 1 c (λ e. lit< tt)

  fixed_some : is_fixed options ≡ true → Clean (elements_at s c true options dimensions).next
      → 0 < (elements_at s c true options dimensions).value
  unfolding elements_at
  fixed_some f = rw f (shape_some s c dimensions)

-- a direct array has a fixed shape
direct_fixed : (options : ℕ) → options_fit true options ≡ true → is_direct options ≡ true → is_fixed options ≡ true
direct_fixed options f d = rw d at f

-- the options that are given were judged
options_fit_lem : (s : List ℕ) (c : Cursor) (array : Bool) → Clean (options_at s c array).next
    → options_fit array (options_at s c array).value ≡ true
unfolding options_at settled ◌>>=◌
options_fit_lem s c array e = rw (eq-eqb _ 0 e) (judged_passed (code_at s c 0 7).next c.at (options_fit array (code_at s c 0 7).value) 4 e).1

-- an element, unless it is an array that is not direct
abbrev Filled : Bool → ℕ → ℕ → Type 0
Filled array options elements = cond array (is_direct options) true ≡ true → 0 < elements

layout_some : (s : List ℕ) (c : Cursor) (array : Bool) (number : ℕ) → Clean (layout_at s c array number).next
    → Filled array (layout_at s c array number).options (layout_at s c array number).elements
unfolding layout_at ◌>>=◌
layout_some s c false number e = λ h. scalar_some s _ _ _ e
layout_some s c true number e = λ h.
    let n = code_at s c number number in
    let o = options_at s n.next true in
    let k : Clean o.next = clean_before (dimensions_forward {B = 0} s o.next true ⊳ elements_forward s _ true o.value _).keeps e in
    fixed_some s _ _ _ (direct_fixed o.value (options_fit_lem s n.next true k) h) e

-- ---- the bits of a cell
-- e elements of b bits, or what stands for b of 0
elements_some : (b e : ℕ) {o : ℕ} → 0 < e → 0 < o → 0 < cond (eqb b 0) o (e * b)
elements_some b e h k = elim (ℕ_discrete b 0) [
  | yes z ↦ rw (eq-eqb b 0 z) k
  | no n ↦ rw (ne_eqb b 0 n) (mul-pos h (pos_of_ne-zero n))
]

text_some : (m : ℕ) → 0 < cond (eqb m 0) 96 (m * 8)
text_some m = elim (ℕ_discrete m 0) [ yes z ↦ rw (eq-eqb m 0 z) (lit< tt) | no n ↦ rw (ne_eqb m 0 n) (omega arith) ]

cell_some : (t : DataType) (array : Bool) (options elements maximum : ℕ) → Filled array options elements
    → 0 < cell_bits t array options elements maximum
unfolding cell_bits
cell_some t true options elements maximum h = pick (is_direct options) h
  where
    pick : (b : Bool) → (b ≡ true → 0 < elements) → 0 < cond b (cond (eqb (element_bits t.number) 0) 96 (elements * element_bits t.number)) 64
    pick true h = elements_some (element_bits t.number) elements (h refl) (lit< tt)
    pick false h = lit< tt
cell_some t false options elements maximum h = elements_some (element_bits t.number) elements (h refl) (text_some maximum)

-- ---- a column, and every column of a table
rest_some : (s : List ℕ) (head : ColumnHead) (c : Cursor) → Clean (column_rest_at s head c).next → 0 < (column_rest_at s head c).column.bits
unfolding column_rest_at ◌>>=◌
rest_some s head c e =
    cell_some head.datatype head.array _ _ _
    (layout_some s _ head.array head.datatype.number (clean_before (tail_forward {B = 0} s _ head.array (element_bits head.datatype.number)).keeps e))

pub bits_some : EveryColumnHasBits
bits_some s i h k = each_column s (λ (x : Column). 0 < x.bits) (λ c from ok f e. rest_some s _ _ e) i h k
