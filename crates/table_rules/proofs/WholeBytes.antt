-- The cells of a column take whole bytes, unless they are Bools.
-- Assumes nothing.
use mathlib.Core.Path.{◌≡◌, refl, sym, ap, ◌∙◌}
use mathlib.Core.List.{List, [], ◌∷◌}
use mathlib.Core.Bool.{Bool, true, false, cond}
use Prim.Native.Nat.{ℕ, zero, suc, ◌*◌, ◌/◌, ◌<◌}
use native.Mathlib.Omega.{arith}
use native.Mathlib.Nat.{mul_assoc, mul_comm}
use lib.ListN.{get_or, set, replicate}
use lib.Dec.{eqb}
use Rattle.bytes_at.specs.Steps.{after, ◌>>=◌}
use Rattle.aipsio_rules.specs.declared.Cursor.{Cursor}
use Rattle.table_rules.specs.declared.data_type.DataType.{DataType}
use Rattle.table_rules.specs.DataType.{nth_row, element_bits}
use Rattle.table_rules.specs.ColumnDesc.{is_direct, cell_bits, column_rest_at, no_column, column_into, no_columns, columns_at}
use Rattle.table_rules.specs.declared.Column.{Column}
use Rattle.table_rules.specs.declared.Columns.{Columns}
use Rattle.table_rules.specs.declared.ColumnHead.{ColumnHead}
use Rattle.table_rules.proofs.data_type.Cases.{each, one_or_none}
use Rattle.table_rules.proofs.data_type.Table.{no_place}
use Rattle.table_rules.proofs.data_type.Sizes.{sizes_agree}

-- a number of bits that is one of whole bytes
abbrev pub Even8 : ℕ → Type 0
Even8 n = n ≡ 8 * (n / 8)

pub eight : (k n : ℕ) → n ≡ 8 * k → Even8 n
eight k n e = omega arith

-- k elements of n bits
pub times_even : (k n : ℕ) → Even8 n → Even8 (k * n)
times_even k n e = eight (k * (n / 8)) (k * n) (ap (λ (x : ℕ). k * x) e ∙ sym (mul_assoc k 8 (n / 8)) ∙ ap (λ (x : ℕ). x * (n / 8)) (mul_comm k 8) ∙ mul_assoc 8 k (n / 8))

-- ---- the bits of an element: of every type but the first of the table, Bool, whose number is 0; other numbers have none
rows_whole : (i : ℕ) → i < 11 → Even8 (element_bits (nth_row (suc i)).number)
unfolding element_bits
rows_whole = each (λ (i : ℕ). Even8 (element_bits (nth_row (suc i)).number)) 11 (search depth 14)

size_whole : (n : ℕ) → (n ≡ 0 → ⊥) → Even8 (element_bits n)
size_whole n h = one_or_none n (λ (i : ℕ). (nth_row i).number) 12 pick (λ none. rw (sizes_agree n, no_place n none) refl)
  where
    pick : (i : ℕ) → i < 12 → n ≡ (nth_row i).number → Even8 (element_bits n)
    pick zero k e = absurd (h e)
    pick (suc i) k e = rw e (rows_whole i (omega arith))

-- ---- the bits of a cell
one_of : (b : Bool) (x y : ℕ) → Even8 x → Even8 y → Even8 (cond b x y)
one_of true x y h k = h
one_of false x y h k = k

cell_whole : (t : DataType) (array : Bool) (options elements maximum : ℕ) → (t.number ≡ 0 → ⊥)
    → Even8 (cell_bits t array options elements maximum)
unfolding cell_bits
cell_whole t array options elements maximum n =
    let whole = times_even elements (element_bits t.number) (size_whole t.number n) in
    one_of array _ _
    (one_of (is_direct options) _ 64 (one_of (eqb (element_bits t.number) 0) 96 _ refl whole) refl)
    (one_of (eqb (element_bits t.number) 0) _ _ (one_of (eqb maximum 0) 96 _ refl (eight maximum (maximum * 8) (omega arith))) whole)

-- ---- a column, and every column of a table
pub record Whole (c : Column) : Type 0 where
  pub whole : (c.datatype.number ≡ 0 → ⊥) → Even8 c.bits

column_whole : (s : List ℕ) (head : ColumnHead) (c : Cursor) → Whole (column_rest_at s head c).column
unfolding column_rest_at ◌>>=◌
column_whole s head c = record { whole = cell_whole head.datatype head.array _ _ _ }

blank_whole : Whole no_column
unfolding no_column
blank_whole = record { whole = λ n. absurd (n refl) }

set_whole : (l : List Column) (n i : ℕ) (x : Column) → Whole x → Whole (get_or l i no_column) → Whole (get_or (set l n x) i no_column)
set_whole [] n i x w h = h
set_whole (y ∷ l) zero zero x w h = w
set_whole (y ∷ l) zero (suc i) x w h = h
set_whole (y ∷ l) (suc n) zero x w h = h
set_whole (y ∷ l) (suc n) (suc i) x w h = set_whole l n i x w h

blanks_whole : (n i : ℕ) → Whole (get_or (replicate n no_column) i no_column)
blanks_whole zero i = blank_whole
blanks_whole (suc n) zero = blank_whole
blanks_whole (suc n) (suc i) = blanks_whole n i

pub no_columns_whole : (i : ℕ) → Whole (get_or (replicate 64 no_column) i no_column)
no_columns_whole i = blanks_whole 64 i

into_whole : (s : List ℕ) (cs : Columns) (n i : ℕ) → Whole (get_or cs.columns i no_column) → Whole (get_or (column_into s cs n).columns i no_column)
unfolding column_into ◌>>=◌
into_whole s cs n i h = set_whole cs.columns n i _ (column_whole s _ _) h

pub columns_whole : (s : List ℕ) (c : Cursor) (n i : ℕ) → Whole (get_or (columns_at s c n).columns i no_column)
unfolding columns_at after
columns_whole s c zero i = no_columns_whole i
columns_whole s c (suc n) i = into_whole s (after (column_into s) (no_columns c) n) n i (columns_whole s c n i)
