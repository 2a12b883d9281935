-- RULES.md 4.1, 4.2, 4.10 and 4.11, and Note 260, 3.1: Table, TableDesc; the questions Description and Column by name.
use Rattle.std.specs.Prelude.{ℕ, ◌≤◌, ◌<◌, ◌≡◌, List, length, replicate, get_or, leb, eqb, ltb, true, false, cond, Result, Ok, Err}
use Rattle.bytes_at.specs.Bytes.{bytes}
use Rattle.aipsio_rules.specs.declared.Cursor.{Cursor}
use Rattle.aipsio_rules.specs.Field.{refusal_in, judged, uint_at, number_at, code_at, name_at, string_at, mark_at}
use Rattle.bytes_at.specs.Steps.{◌>>=◌}
use Rattle.table_rules.specs.declared.TableHead.{TableHead}
use Rattle.aipsio_rules.specs.Object.{record_at, opened, closed}
use Rattle.table_rules.specs.declared.TableDescHead.{TableDescHead}
use Rattle.table_rules.specs.ColumnDesc.{no_column, columns_at, first_named}
use Rattle.table_rules.specs.ColumnSet.{most_rows, no_manager, no_binding, column_set_head_at, managers_at, infos_at, bindings_at, owners_at}
use Rattle.table_rules.specs.declared.Description.{Description}
use Rattle.table_rules.specs.declared.Column.{Column}
use Rattle.table_rules.specs.declared.Binding.{Binding}
use Rattle.bytes_at.specs.declared.Refusal.{Refusal}
use Rattle.bytes_at.specs.Stages.{no_refusal, ◌▷◌, or_no, OthersCarry0}

-- the bytes of table.dat, big endian in every table: "at most 65,536 bytes (else 4, before anything is read)"
abbrev pub whole_of : List ℕ → Cursor
whole_of s = judged (record { at = 0; end = length s; big = true; refused = 0 }) 65536 (leb (length s) 65536) 4

-- the count in Table's header, a uInt, endianness 0 or 1 (else 5), "table type PlainTable"
unfoldable pub table_head_at : List ℕ → Cursor → TableHead
table_head_at s c = do
  rows ← uint_at s c
  endian ← code_at s rows.next 0 1
  kind ← name_at s endian.next (bytes "PlainTable")
  record { rows = rows.value; big = eqb endian.value 1; next = kind }

-- TableDesc: name, version and comment
unfoldable pub table_notes_at : List ℕ → Cursor → Cursor
table_notes_at s c = do
  name ← string_at s c 0 4096
  version ← string_at s name.next 0 4096
  comment ← string_at s version.next 0 4096
  comment.next

-- TableDesc: name, version and comment, keyword set, private keyword set, "columns 1 to 64"
unfoldable pub table_desc_head_at : List ℕ → Cursor → TableDescHead
table_desc_head_at s c = do
  name ← string_at s c 0 4096
  version ← string_at s name.next 0 4096
  comment ← string_at s version.next 0 4096
  keywords ← record_at s comment.next
  private ← record_at s keywords
  n ← number_at s private 4 1 64
  record { count = n.value; next = n.next }

-- "A refusal carries its number and zeros", and beside them its byte.
unfoldable pub refused_table : Refusal → Description
refused_table why = record {
  refused = why;
  rows = 0;
  column_count = 0;
  manager_count = 0;
  columns = replicate 64 no_column;
  bindings = replicate 64 no_binding;
  managers = replicate 16 no_manager;
  big = false;
}

-- Description: Table version 2, TableDesc version 2 inside it, and after that the ColumnSet, whose row count is the table's
unfoldable pub described_as : List ℕ → Description
described_as s = do
  c ← whole_of s
  m ← mark_at s c
  t ← opened s m (bytes "Table") 2 2
  head ← table_head_at s t.next
  o ← opened s head.next (bytes "TableDesc") 2 2
  n ← table_desc_head_at s o.next
  cs ← columns_at s n.next n.count
  e ← closed cs.next head.next
  set ← column_set_head_at s e head.rows
  ms ← managers_at s set.next set.count set.highest
  os ← owners_at s ms.next cs.columns n.count ms.managers set.count
  is ← infos_at s os.next ms.managers os.counts set.count
  d ← closed is.next m
  bindings ← bindings_at s os.owners is.infos n.count
  cond (eqb d.refused 0)
      (record {
        refused = no_refusal;
        rows = set.rows;
        column_count = n.count;
        manager_count = set.count;
        columns = cs.columns;
        bindings = bindings;
        managers = ms.managers;
        big = head.big;
      })
      (refused_table (refusal_in d))

-- the column at a position, and its binding
abbrev pub column_in : Description → ℕ → Column
column_in d position = get_or d.columns position no_column

abbrev pub binding_in : Description → ℕ → Binding
binding_in d position = get_or d.bindings position no_binding

-- The row range: of every table, refused ones too.
abbrev pub EveryRowCount : Type 0
EveryRowCount = (t : List ℕ) → (described_as t).rows ≤ most_rows

-- Cell bits are never 0: of every table that is not refused, every column.
abbrev pub EveryColumnHasBits : Type 0
EveryColumnHasBits = (t : List ℕ) (i : ℕ) → (described_as t).refused.number ≡ 0 → i < (described_as t).column_count → 0 < (column_in (described_as t) i).bits

abbrev pub position_or : Refusal → ℕ → Result ℕ Refusal
position_or refused k = cond (eqb refused.number 0) (Ok k) (Err refused)

-- Column by name: its position, from 0 in stored order, or 8
unfoldable pub column_named : List ℕ → List ℕ → Result ℕ Refusal
column_named s name = do
  d ← described_as s
  k ← first_named s d.columns d.column_count name
  position_or (d.refused ▷ or_no (ltb k d.column_count) 8) k

-- what each case of that answer says: the refusal, and the position, 0 where it is refused
abbrev pub position_refusal : Result ℕ Refusal → Refusal
position_refusal (Ok k) = no_refusal
position_refusal (Err why) = why

abbrev pub position_value : Result ℕ Refusal → ℕ
position_value (Ok k) = k
position_value (Err why) = 0

-- "Others carry 0": of every table, and of every name that is looked for.
abbrev pub EveryTableByte : Type 0
EveryTableByte = (t name : List ℕ) → OthersCarry0 (described_as t).refused × OthersCarry0 (position_refusal (column_named t name))
