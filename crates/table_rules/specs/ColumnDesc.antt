-- RULES.md 4.3 to 4.5, and Note 260, 3.1.1: ColumnDesc, its fields in file order.
use Rattle.std.specs.Prelude.{Bool, true, false, ◌&&◌, not, cond, ℕ, ◌%◌, ◌/◌, ◌*◌, List, take, drop, get_or, set, replicate, eqb, leb, ltb, Option, None, is_some, unwrap_or}
use Rattle.table_rules.specs.declared.ColumnType.{ColumnType}
use Rattle.bytes_at.specs.Bytes.{bytes, same_bytes}
use Rattle.table_rules.specs.DataType.{nth_type, element_bits, with_name, is_string}
use Rattle.bytes_at.specs.Steps.{◌>>=◌, after}
use Rattle.aipsio_rules.specs.declared.Cursor.{Cursor}
use Rattle.aipsio_rules.specs.Field.{minus_one, judged, string_at, version_at, settled, code_at, uint_at, skipped, flag_at, number_at}
use Rattle.table_rules.specs.declared.TypeRead.{TypeRead}
use Rattle.table_rules.specs.declared.ColumnHead.{ColumnHead}
use Rattle.aipsio_rules.specs.declared.Value.{Value}
use Rattle.aipsio_rules.specs.Object.{iposition_at, shape_at, record_at}
use Rattle.table_rules.specs.declared.Layout.{Layout}
use Rattle.table_rules.specs.declared.data_type.DataType.{DataType}
use Rattle.table_rules.specs.declared.ColumnRead.{ColumnRead}
use Rattle.table_rules.specs.declared.Column.{Column}
use Rattle.bytes_at.specs.Lists.{first_below}
use Rattle.table_rules.specs.declared.Columns.{Columns}

abbrev pub typed : Bool → Option DataType → ColumnType
typed array t = record { array = array; datatype = t }

-- "ScalarColumnDesc<T and ArrayColumnDesc<T, no closing bracket"
unfoldable pub column_type_of : List ℕ → ColumnType
column_type_of s =
    cond (same_bytes (take 17 s) (bytes "ScalarColumnDesc<"))
    (typed false (with_name (drop 17 s)))
    (cond (same_bytes (take 16 s) (bytes "ArrayColumnDesc<"))
    (typed true (with_name (drop 16 s)))
    (typed false None))

-- the column type string, else 5; what is no type carries the first of the table
unfoldable pub column_type_at : List ℕ → Cursor → TypeRead
column_type_at s c = do
  t ← string_at s c 0 4096
  found ← take t.len (drop t.start s)
  k ← column_type_of found
  d ← judged t.next c.at (is_some k.datatype) 5
  record { array = k.array; datatype = unwrap_or k.datatype (nth_type 0); next = d }

-- ColumnDesc version, type, BaseColumnDesc version, and the column's name: "described column name 1 to 64 bytes"
unfoldable pub column_head_at : List ℕ → Cursor → ColumnHead
column_head_at s c = do
  v ← version_at s c 1 1
  t ← column_type_at s v.next
  w ← version_at s t.next 1 1
  name ← string_at s w.next 1 64
  record {
    array = t.array;
    datatype = t.datatype;
    start = name.start;
    len = name.len;
    from = w.next.at;
    next = name.next;
  }

-- comment, data manager type, data manager group
unfoldable pub notes_at : List ℕ → Cursor → Cursor
notes_at s c = do
  comment ← string_at s c 0 4096
  manager ← string_at s comment.next 0 4096
  group ← string_at s manager.next 0 4096
  group.next

-- Options are 1 (direct), 2 and 4 (fixed shape), added.
abbrev pub is_direct : ℕ → Bool
is_direct options = eqb (options % 2) 1

abbrev pub is_fixed : ℕ → Bool
is_fixed options = leb 4 options

-- "For arrays, option 1 (direct) needs option 4 (fixed shape)."
abbrev pub options_fit : Bool → ℕ → Bool
options_fit array options = cond array (cond (is_direct options) (is_fixed options) true) true

-- "Options are 0 to 7", else 5
unfoldable pub options_at : List ℕ → Cursor → Bool → Value
options_at s c array = do
  o ← code_at s c 0 7
  ok ← options_fit array o.value
  d ← judged o.next c.at ok 5
  settled o.value d

-- "A scalar has dimensionality 0 or -1"
abbrev pub dimensions_fit : Bool → ℕ → Bool
dimensions_fit array n = cond array true (cond (eqb n 0) true (eqb n minus_one))

-- the dimensionality, else 5
unfoldable pub dimensions_at : List ℕ → Cursor → Bool → Value
dimensions_at s c array = do
  n ← uint_at s c
  ok ← dimensions_fit array n.value
  d ← judged n.next c.at ok 5
  settled n.value d

-- "The element count is 1 for a scalar, the shape's product with option 4, else 0. Other shapes are read and not judged."
unfoldable pub elements_at : List ℕ → Cursor → Bool → ℕ → ℕ → Value
elements_at s c array options dimensions =
    cond array
    (cond (is_fixed options)
    (shape_at s c dimensions)
    (do
      d ← iposition_at s c
      settled 0 d))
    (settled 1 c)

-- data type number, which is T's (else 5), options, dimensionality and shape
unfoldable pub layout_at : List ℕ → Cursor → Bool → ℕ → Layout
layout_at s c array number = do
  n ← code_at s c number number
  o ← options_at s n.next array
  d ← dimensions_at s o.next array
  e ← elements_at s d.next array o.value d.value
  record { options = o.value; elements = e.value; next = e.next }

-- the default value of a scalar, "stored according to the data type", or an array's dummy Bool
unfoldable pub default_at : List ℕ → Cursor → Bool → ℕ → Cursor
default_at s c array bits =
    cond array
    (flag_at s c).next
    (cond (eqb bits 1) (flag_at s c).next (cond (eqb bits 0) (string_at s c 0 4096).next (skipped c (bits / 8))))

-- "string maximum 0 to 65,536", keyword set, version and default value
unfoldable pub tail_at : List ℕ → Cursor → Bool → ℕ → Value
tail_at s c array bits = do
  m ← number_at s c 4 0 65536
  keywords ← record_at s m.next
  v ← version_at s keywords 1 1
  d ← default_at s v.next array bits
  settled m.value d

-- "Cell bits: scalars and direct arrays, elements x size x 8, a Bool element being one bit; String scalar, maximum x 8 if
-- above 0, else 96; direct String array 96; other arrays 64." A String alone has 0 bits by its type.
unfoldable pub cell_bits : DataType → Bool → ℕ → ℕ → ℕ → ℕ
cell_bits t array options elements maximum =
    cond array
    (cond (is_direct options) (cond (eqb (element_bits t.number) 0) 96 (elements * element_bits t.number)) 64)
    (cond (eqb (element_bits t.number) 0) (cond (eqb maximum 0) 96 (maximum * 8)) (elements * element_bits t.number))

-- the rest of a ColumnDesc, past its name
unfoldable pub column_rest_at : List ℕ → ColumnHead → Cursor → ColumnRead
column_rest_at s head c = do
  notes ← notes_at s c
  layout ← layout_at s notes head.array head.datatype.number
  maximum ← tail_at s layout.next head.array (element_bits head.datatype.number)
  bits ← cell_bits head.datatype head.array layout.options layout.elements maximum.value
  record {
    column = record {
      start = head.start;
      len = head.len;
      datatype = head.datatype;
      array = head.array;
      options = layout.options;
      elements = layout.elements;
      maximum = maximum.value;
      bits = bits;
    };
    next = maximum.next;
  }

-- no column: zeros
unfoldable pub no_column : Column
no_column = record {
  start = 0;
  len = 0;
  datatype = record { number = 0 };
  array = false;
  options = 0;
  elements = 0;
  maximum = 0;
  bits = 0;
}

-- "a String scalar with a maximum": zero bytes fill its cells up to the maximum
unfoldable pub is_padded : Column → Bool
is_padded c = is_string c.datatype.number && not c.array && ltb 0 c.maximum

-- a column's name, a part of table.dat
abbrev pub name_in : List ℕ → Column → List ℕ
name_in s c = take c.len (drop c.start s)

unfoldable pub is_named : List ℕ → List ℕ → Column → Bool
is_named s name c = same_bytes (name_in s c) name

-- the first of n columns with the name, or n
unfoldable pub first_named : List ℕ → List Column → ℕ → List ℕ → ℕ
first_named s columns n name = first_below (λ (i : ℕ). is_named s name (get_or columns i no_column)) n

-- one column more, at i: "a column name twice" is 6
unfoldable pub column_into : List ℕ → Columns → ℕ → Columns
column_into s cs i = do
  head ← column_head_at s cs.next
  name ← take head.len (drop head.start s)
  k ← first_named s cs.columns i name
  d ← judged head.next head.from (eqb k i) 6
  read ← column_rest_at s head d
  record { columns = set cs.columns i read.column; next = read.next }

-- no column yet
abbrev pub no_columns : Cursor → Columns
no_columns c = record { columns = replicate 64 no_column; next = c }

-- n columns
unfoldable pub columns_at : List ℕ → Cursor → ℕ → Columns
columns_at s c n = after (column_into s) (no_columns c) n
