-- RULES.md 6.4, and Note 260, 3.4.3, Data Bucket: one bucket. Each step that judges a number also keeps the one
-- that is asked for, so that the check and the search for a cell are one.
use Rattle.std.specs.Prelude.{ℕ, zero, suc, ◌+◌, ◌-◌, ◌*◌, ◌%◌, ◌≤◌, ◌<◌, ◌≡◌, cond, ◌&&◌, Bool, false, eqb, leb, ltb, replicate, set, get_or, List}
use Rattle.table_rules.specs.DataType.{is_string}
use Rattle.table_rules.specs.declared.Column.{Column}
use Rattle.standard_rules.specs.Map.{ceil8}
use Rattle.incremental_rules.specs.declared.Cells.{Cells}
use Rattle.table_rules.specs.ColumnDesc.{no_column}
use Rattle.table_rules.specs.declared.Binding.{Binding}
use Rattle.table_rules.specs.ColumnSet.{no_binding}
use Rattle.bytes_at.specs.Number.{bytes_of, int_width, int_bytes, uint_of}
use Rattle.bytes_at.specs.Steps.{after, ◌>>=◌}
use Rattle.table_rules.specs.declared.Description.{Description}
use Rattle.aipsio_rules.specs.declared.Cursor.{Cursor}
use Rattle.aipsio_rules.specs.declared.Value.{Value}
use Rattle.aipsio_rules.specs.Field.{skipped, judged, settled, sized_at, uint_at}
use Rattle.incremental_rules.specs.declared.BucketHead.{BucketHead}
use Rattle.incremental_rules.specs.declared.Starts.{Starts}

-- "plus the cell's whole bytes"; "For a column of type String, arrays too, the offset alone"
abbrev pub cell_bytes : Column → ℕ
cell_bytes c = cond (is_string c.datatype.number) 0 (ceil8 c.bits)

-- no column yet
abbrev pub no_cells : Cells
no_cells = record { bytes = replicate 64 0; count = 0; column = 64 }

-- one column more; where its position is the one asked for, that is noted
abbrev pub cell_more : Column → ℕ → ℕ → Cells → Cells
cell_more c k position cells = record {
  bytes = set cells.bytes cells.count (cell_bytes c);
  count = cells.count + 1;
  column = cond (eqb k position) cells.count cells.column;
}

-- column k of the table, if it is bound to the manager with the sequence number
unfoldable pub cell_into : List Column → List Binding → ℕ → ℕ → Cells → ℕ → Cells
cell_into cs bs sequence position cells k =
    cond (eqb (get_or bs k no_binding).sequence sequence) (cell_more (get_or cs k no_column) k position cells) cells

-- of n columns, those of a file, in table order, and which of them is at the position
unfoldable pub cells_in : List Column → List Binding → ℕ → ℕ → ℕ → Cells
cells_in cs bs n sequence position = after (cell_into cs bs sequence position) no_cells n

abbrev pub cells_of : Description → ℕ → ℕ → Cells
cells_of d sequence position = cells_in d.columns d.bindings d.column_count sequence position

-- zeros where the cursor is refused
unfoldable pub begun : Cursor → Bool → ℕ → BucketHead
begun c wide len =
    cond (eqb c.refused 0) (record { wide = wide; len = len; next = c }) (record { wide = false; len = 0; next = c })

-- "A high byte above 0": the starts of the bucket are Int64.
abbrev pub is_wide : ℕ → Bool
is_wide word = leb 16777216 word

-- "The low three bytes are then the offset": so they are where the high byte is 0.
abbrev pub low_bytes : ℕ → ℕ
low_bytes word = word % 16777216

-- "A bucket begins with index offset x in the table's endianness, 4 to bucket size" (else 11): the length of the data part, x - 4, and
-- the cursor at the index part
unfoldable pub bucket_head_at : List ℕ → Cursor → ℕ → BucketHead
bucket_head_at s c size = do
  word ← uint_at s c
  x ← low_bytes word.value
  ok ← leb 4 x && leb x size
  d ← judged word.next c.at ok 11
  len ← x - 4
  n ← skipped d len
  begun n (is_wide word.value) len

-- "starts from 0, rising strictly, below the bucket's rows": start i, after the last one
unfoldable pub start_fits : ℕ → ℕ → ℕ → ℕ → Bool
start_fits i last v rows = cond (leb rows v) false (cond (eqb i 0) (eqb v 0) (ltb last v))

-- zeros where the cursor is refused
unfoldable pub started : Cursor → ℕ → ℕ → Starts
started c last hit =
    cond (eqb c.refused 0) (record { last = last; hit = hit; next = c }) (record { last = 0; hit = 0; next = c })

-- start i, of so many bytes, else 11; a negative one is below no row count. "The last start not above the local row": `hit` is its
-- number.
unfoldable pub start_into : List ℕ → ℕ → ℕ → ℕ → Starts → ℕ → Starts
start_into s width rows row st i = do
  v ← sized_at s st.next width
  ok ← start_fits i st.last v.value rows
  next ← judged v.next st.next.at ok 11
  hit ← cond (leb v.value row) i st.hit
  started next v.value hit

unfoldable pub starts_at : List ℕ → Cursor → ℕ → ℕ → ℕ → ℕ → Starts
starts_at s c width n rows row = after (start_into s width rows row) (record { last = 0; hit = 0; next = c }) n

-- "each offset, counted from byte 4, plus the cell's whole bytes is at most x - 4": offset i, else 11. That of value `hit` is kept.
unfoldable pub offset_into : List ℕ → ℕ → ℕ → ℕ → Value → ℕ → Value
offset_into s limit bytes hit st i = do
  v ← uint_at s st.next
  ok ← leb (v.value + bytes) limit
  next ← judged v.next st.next.at ok 11
  offset ← cond (eqb i hit) v.value st.value
  settled offset next

unfoldable pub offsets_at : List ℕ → Cursor → ℕ → ℕ → ℕ → ℕ → Value
offsets_at s c n limit bytes hit = after (offset_into s limit bytes hit) (record { value = 0; next = c }) n

-- "Per column: at least one value", else 11; their starts, of so many bytes each; their offsets
unfoldable pub column_part_at : List ℕ → Cursor → ℕ → ℕ → ℕ → ℕ → ℕ → Value
column_part_at s c width limit rows row bytes = do
  n ← uint_at s c
  d ← judged n.next c.at (ltb 0 n.value) 11
  starts ← starts_at s d width n.value rows row
  offsets_at s starts.next n.value limit bytes starts.hit

-- column k, whose values take the bytes given; the offset in the column that is asked for is kept
unfoldable pub column_part_into : List ℕ → ℕ → ℕ → ℕ → ℕ → ℕ → List ℕ → Value → ℕ → Value
column_part_into s width limit rows row column bytes st k = do
  one ← column_part_at s st.next width limit rows row (get_or bytes k 0)
  offset ← cond (eqb k column) one.value st.value
  record { value = offset; next = one.next }

unfoldable pub column_parts_at : List ℕ → Cursor → ℕ → ℕ → ℕ → ℕ → ℕ → List ℕ → ℕ → Value
column_parts_at s c width limit rows row column bytes n =
    after (column_part_into s width limit rows row column bytes) (record { value = 0; next = c }) n

-- The bucket of `size` bytes from a place of the file on, with so many rows and n columns in the table's order: what refuses it,
-- and the offset of the value that the local row has in the column. "Bucket faults give 1 where the bucket ends, else 11."
unfoldable pub bucket_at : List ℕ → ℕ → ℕ → Bool → ℕ → ℕ → ℕ → List ℕ → ℕ → Value
bucket_at f at size big rows row column bytes n = do
  head ← bucket_head_at f (record { at = at; end = at + size; big = big; refused = 0 }) size
  width ← int_width head.wide
  column_parts_at f head.next (bytes_of width) head.len rows row column bytes n

-- "index offset x in the table's endianness" of the bucket at a place
abbrev pub index_offset : Bool → List ℕ → ℕ → ℕ
index_offset big f at = low_bytes (uint_of big 4 f at)

-- how many bytes its starts have
abbrev pub start_bytes : Bool → List ℕ → ℕ → ℕ
start_bytes big f at = int_bytes (is_wide (uint_of big 4 f at))

-- Note 260, Index Part: a column's part holds the number of its values, as many starts, as many offsets.
abbrev pub values_in : Bool → List ℕ → ℕ → ℕ
values_in big f part = uint_of big 4 f part

-- start i of a part whose starts have so many bytes
abbrev pub start_in : Bool → List ℕ → ℕ → ℕ → ℕ → ℕ
start_in big f width part i = uint_of big width f (part + 4 + i * width)

-- offset i of a part, "counted from byte 4"
abbrev pub offset_of_value : Bool → List ℕ → ℕ → ℕ → ℕ → ℕ
offset_of_value big f width part i = uint_of big 4 f (part + 4 + values_in big f part * width + i * 4)

-- where the part ends
abbrev pub past_part : Bool → List ℕ → ℕ → ℕ → ℕ
past_part big f width part = part + 4 + values_in big f part * width + values_in big f part * 4

-- where the part of column k begins, the first at a place
unfoldable pub part_of : Bool → List ℕ → ℕ → ℕ → ℕ → ℕ
part_of big f width at zero = at
part_of big f width at (suc k) = let before = part_of big f width at k in past_part big f width before

-- The sentence "Per column" as facts, one for each of its clauses, of the part at a place in a bucket that ends at `end`: `width` is
-- how many bytes a start has, `limit` is x - 4, and `bytes` are "the cell's whole bytes", 0 for a String, of which "the offset alone is
-- at most x - 4".
pub record PartAccepted (big : Bool) (f : List ℕ) (width part end limit rows bytes : ℕ) : Type 0 where
  -- "at least one value"
  pub some : 0 < values_in big f part
  -- "starts from 0"
  pub from_zero : start_in big f width part 0 ≡ 0
  -- "rising strictly"
  pub rise : (i : ℕ) → i + 1 < values_in big f part → start_in big f width part i < start_in big f width part (i + 1)
  -- "below the bucket's rows"
  pub below : (i : ℕ) → i < values_in big f part → start_in big f width part i < rows
  -- "each offset, counted from byte 4, plus the cell's whole bytes is at most x - 4"
  pub fits : (i : ℕ) → i < values_in big f part → offset_of_value big f width part i + bytes ≤ limit
  -- "Bucket faults give 1 where the bucket ends": all these numbers lie in it
  pub inside : past_part big f width part ≤ end

-- The sentences on a bucket as facts, of the bucket of `size` bytes at a place, with so many rows and n columns.
pub record BucketAccepted (f : List ℕ) (at size : ℕ) (big : Bool) (rows : ℕ) (bytes : List ℕ) (n : ℕ) : Type 0 where
  -- "index offset x in the table's endianness, 4 to bucket size"
  pub low : 4 ≤ index_offset big f at
  pub high : index_offset big f at ≤ size
  -- "Per column", one part after another from x on
  pub columns : (k : ℕ) → k < n
      → PartAccepted big f (start_bytes big f at) (part_of big f (start_bytes big f at) (at + index_offset big f at) k) (at + size)
      (index_offset big f at - 4) rows (get_or bytes k 0)
