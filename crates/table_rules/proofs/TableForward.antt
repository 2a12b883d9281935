-- Readers of table.dat go forward up to the last column, and do not leave the file.
-- Assumes nothing.
use mathlib.Core.List.{List}
use mathlib.Core.Bool.{Bool, true, false, cond}
use Prim.Native.Nat.{ℕ, ◌/◌}
use lib.Dec.{eqb}
use Rattle.bytes_at.specs.Steps.{◌>>=◌}
use Rattle.aipsio_rules.specs.declared.Cursor.{Cursor}
use Rattle.aipsio_rules.specs.Field.{settled}
use Rattle.aipsio_rules.specs.Object.{iposition_at, shape_at}
use Rattle.aipsio_rules.proofs.Forward.{Forward, forward_same, forward_either, forward_after, ◌⊳◌, skipped_forward, judged_forward, uint_forward, ranged_forward, string_forward, name_forward, iposition_forward, record_forward, shape_forward}
use Rattle.table_rules.specs.declared.ColumnHead.{ColumnHead}
use Rattle.table_rules.specs.declared.Columns.{Columns}
use Rattle.table_rules.specs.ColumnDesc.{is_fixed, column_type_at, column_head_at, notes_at, options_at, dimensions_at, elements_at, layout_at, default_at, tail_at, column_rest_at, column_into, no_columns, columns_at}
use Rattle.table_rules.specs.Table.{table_head_at, table_notes_at, table_desc_head_at}

module _ {B : ℕ} (s : List ℕ) where
  -- Table, and TableDesc up to its columns.
  pub table_head_forward : (c : Cursor) → Forward B c (table_head_at s c).next
  unfolding table_head_at ◌>>=◌
  table_head_forward c = uint_forward s c ⊳ ranged_forward s _ 4 0 1 4 ⊳ name_forward s _ _

  pub table_notes_forward : (c : Cursor) → Forward B c (table_notes_at s c)
  unfolding table_notes_at ◌>>=◌
  table_notes_forward c = string_forward s c 0 4096 ⊳ string_forward s _ 0 4096 ⊳ string_forward s _ 0 4096

  pub desc_head_forward : (c : Cursor) → Forward B c (table_desc_head_at s c).next
  unfolding table_notes_at table_desc_head_at ◌>>=◌
  desc_head_forward c = table_notes_forward c ⊳ record_forward s _ ⊳ record_forward s _ ⊳ ranged_forward s _ 4 1 64 3

  -- A ColumnDesc.
  type_forward : (c : Cursor) → Forward B c (column_type_at s c).next
  unfolding column_type_at ◌>>=◌
  type_forward c = string_forward s c 0 4096 ⊳ judged_forward _ _ _ 4

  pub head_forward : (c : Cursor) → Forward B c (column_head_at s c).next
  unfolding column_head_at ◌>>=◌
  head_forward c = ranged_forward s c 4 1 1 2 ⊳ type_forward _ ⊳ ranged_forward s _ 4 1 1 2 ⊳ string_forward s _ 1 64

  pub notes_forward : (c : Cursor) → Forward B c (notes_at s c)
  unfolding notes_at ◌>>=◌
  notes_forward c = string_forward s c 0 4096 ⊳ string_forward s _ 0 4096 ⊳ string_forward s _ 0 4096

  options_forward : (c : Cursor) (array : Bool) → Forward B c (options_at s c array).next
  unfolding options_at settled ◌>>=◌
  options_forward c array = ranged_forward s c 4 0 7 4 ⊳ judged_forward _ _ _ 4

  pub dimensions_forward : (c : Cursor) (array : Bool) → Forward B c (dimensions_at s c array).next
  unfolding dimensions_at settled ◌>>=◌
  dimensions_forward c array = uint_forward s c ⊳ judged_forward _ _ _ 4

  pub elements_forward : (c : Cursor) (array : Bool) (options dimensions : ℕ) → Forward B c (elements_at s c array options dimensions).next
  unfolding elements_at settled ◌>>=◌
  elements_forward c true options dimensions = pick (is_fixed options)
    where
      pick : (b : Bool) → Forward B c (cond b (shape_at s c dimensions) (settled 0 (iposition_at s c))).next
      pick true = shape_forward s c dimensions
      pick false = iposition_forward s c
  elements_forward c false options dimensions = forward_same c

  pub layout_forward : (c : Cursor) (array : Bool) (number : ℕ) → Forward B c (layout_at s c array number).next
  unfolding layout_at ◌>>=◌
  layout_forward c array number =
      ranged_forward s c 4 number number 4 ⊳ options_forward _ array ⊳ dimensions_forward _ array ⊳ elements_forward _ array _ _

  pub default_forward : (c : Cursor) (array : Bool) (bits : ℕ) → Forward B c (default_at s c array bits)
  unfolding default_at
  default_forward c array bits =
      let flag = ranged_forward s c 1 0 1 4 in
      forward_either array flag (forward_either (eqb bits 1) flag (forward_either (eqb bits 0) (string_forward s c 0 4096) (skipped_forward c (bits / 8))))

  pub tail_forward : (c : Cursor) (array : Bool) (bits : ℕ) → Forward B c (tail_at s c array bits).next
  unfolding tail_at settled ◌>>=◌
  tail_forward c array bits =
      ranged_forward s c 4 0 65536 3 ⊳ record_forward s _ ⊳ ranged_forward s _ 4 1 1 2 ⊳ default_forward _ array bits

  rest_forward : (head : ColumnHead) (c : Cursor) → Forward B c (column_rest_at s head c).next
  unfolding column_rest_at ◌>>=◌
  rest_forward head c = notes_forward c ⊳ layout_forward _ _ _ ⊳ tail_forward _ _ _

  -- a turn of the loop
  pub column_forward : (cs : Columns) (i : ℕ) → Forward B cs.next (column_into s cs i).next
  unfolding column_into ◌>>=◌
  column_forward cs i = head_forward cs.next ⊳ judged_forward _ _ _ 5 ⊳ rest_forward _ _

  pub columns_forward : (c : Cursor) (n : ℕ) → Forward B c (columns_at s c n).next
  unfolding columns_at
  columns_forward c n = forward_after _ (λ (cs : Columns). cs.next) column_forward (no_columns c) n
