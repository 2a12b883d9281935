-- A TableRecord begins where a keyword set is looked for: Description read one there, in a container that ends no later than the file.
-- Assumes nothing.
use mathlib.Core.Path.{◌≡◌, refl, sym}
use mathlib.Core.List.{List}
use mathlib.Core.Bool.{Bool}
use Prim.Native.Nat.{ℕ, ◌+◌}
use native.Mathlib.Omega.{arith}
use lib.ListN.{length}
use borrow.Author.Tests.{ltb-true}
use Rattle.bytes_at.specs.Steps.{◌>>=◌}
use Rattle.aipsio_rules.specs.declared.Cursor.{Cursor}
use Rattle.aipsio_rules.specs.Field.{settled, judged, skipped, number_at}
use Rattle.aipsio_rules.specs.Object.{record_at}
use Rattle.aipsio_rules.proofs.Kept.{Clean, clean_before}
use Rattle.aipsio_rules.proofs.Sides.{skip_on}
use Rattle.aipsio_rules.proofs.Accepted.{judged_passed, judged_is, string_ends}
use Rattle.aipsio_rules.proofs.Forward.{Within, Forward, ◌⊳◌, judged_forward, ranged_forward}
use Rattle.aipsio_rules.proofs.Wider.{Wide, ranged_wide, record_wide}
use Rattle.table_rules.specs.declared.Column.{Column}
use Rattle.table_rules.specs.ColumnDesc.{column_head_at, tail_at, column_rest_at}
use Rattle.table_rules.specs.Table.{described_as}
use Rattle.table_rules.proofs.TableForward.{table_notes_forward, head_forward, notes_forward, layout_forward, default_forward}
use Rattle.table_rules.proofs.WiderColumns.{notes_wide, layout_wide}
use Rattle.table_rules.proofs.EachColumn.{begin, column_from, fields_forward, table_set, each_column}
use Rattle.keyword_rules.specs.declared.Scope.TheVariants.{Table as OfTable, Column as OfColumn}
use Rattle.keyword_rules.specs.Keywords.{from, table_keywords, column_keywords, KeywordSetsThere}

module _ (s : List ℕ) where
  -- a cursor on the way from the start is inside the file, and the file from its place on is a larger container
  within : {c : Cursor} → Forward (length s) (begin s) c → Clean c → Within (length s) c
  within f e = f.stays (record { at = omega arith; end = omega arith }) e

  file_wide : {c : Cursor} {at : ℕ} → Forward (length s) (begin s) c → (Clean c → c.at ≡ at) → Wide c (from at s)
  file_wide f q e = record { at = q e; ends = (within f e).end; big = f.order e; clean = refl }

  table_there : (described_as s).refused.number ≡ 0 → Clean (record_at s (from (table_keywords s) s))
  unfolding table_keywords ◌>>=◌
  table_there h = (record_wide s (file_wide (fields_forward s ⊳ table_notes_forward s _) (λ _. refl)) (table_set s h)).clean

  -- a column's notes begin behind its name
  name_ends : (c : Cursor) (at : ℕ) (ok : Bool) → Clean (judged (column_head_at s c).next at ok 6)
      → (judged (column_head_at s c).next at ok 6).at ≡ (column_head_at s c).start + (column_head_at s c).len
  unfolding column_head_at ◌>>=◌
  name_ends c at ok e = rw (judged_is _ at ok 5 e) (sym (string_ends s _ 1 64 (judged_passed _ at ok 5 e).0))

  behind_wide : {c : Cursor} (start len : ℕ) → Forward (length s) (begin s) c → (Clean c → c.at ≡ start + len) → Wide c (skipped (from start s) len)
  behind_wide start len f q e =
      rw (← (skip_on (from start s) refl refl len (omega (arith, (within f e).at, q e)))) (file_wide f q e)

  -- a column's keyword set was passed
  tail_set : (c : Cursor) (array : Bool) (bits : ℕ) → Clean (tail_at s c array bits).next → Clean (record_at s (number_at s c 4 0 65536).next)
  unfolding tail_at settled ◌>>=◌
  tail_set c array bits = clean_before (ranged_forward {B = 0} s _ 4 1 1 2 ⊳ default_forward s _ array bits).keeps

  abbrev ColumnThere : Column → Type 0
  ColumnThere column = Clean (record_at s (from (column_keywords s column) s))

  column_there : (c : Cursor) (at : ℕ) (ok : Bool) → Forward (length s) (begin s) c → Clean (column_from s c at ok).next
      → ColumnThere (column_from s c at ok).column
  unfolding column_keywords column_rest_at ◌>>=◌
  column_there c at ok f e =
      let head = column_head_at s c in
      let g = f ⊳ head_forward s c ⊳ judged_forward _ at ok 5 in
      let name = behind_wide head.start head.len g (name_ends c at ok) in
      let maximum = ranged_wide s (layout_wide s (notes_wide s name) head.array head.datatype.number) 4 0 65536 3 in
      (record_wide s
      (file_wide (g ⊳ notes_forward s _ ⊳ layout_forward s _ _ _ ⊳ ranged_forward s _ 4 0 65536 3) (λ h. (maximum h).next.at))
      (tail_set _ head.array _ e)).clean

pub keyword_sets_there : KeywordSetsThere
keyword_sets_there s OfTable h k = table_there s h
keyword_sets_there s (OfColumn i) h k = each_column s (ColumnThere s) (column_there s) i h (ltb-true _ _ k)
