-- RULES.md 4.14, and Note 260, section 2.4: RecordDesc, its fields in file order.
use Rattle.std.specs.Prelude.{ℕ, zero, suc, List, Bool, true, cond, ltb, eqb}
use Rattle.bytes_at.specs.Bytes.{bytes}
use Rattle.bytes_at.specs.Steps.{◌>>=◌, after}
use Rattle.aipsio_rules.specs.declared.Cursor.{Cursor}
use Rattle.aipsio_rules.specs.Field.{skipped, skipped_each, judged, settled, uint_at, number_at, string_at, name_at}
use Rattle.aipsio_rules.specs.Object.{opened, closed, iposition_at}
use Rattle.keyword_rules.specs.declared.FieldHead.{FieldHead}
use Rattle.keyword_rules.specs.Values.{is_array_type, is_table_type, is_record_type, is_keyword_type}

-- a record may be held where there is a level left
abbrev pub may_hold : ℕ → ℕ → Bool
may_hold number deeper = cond (is_record_type number) (ltb 0 deeper) true

-- a field's name and its type: "any other number is 5", and "a record deeper than eight is 15, at the type number"
unfoldable pub field_head_at : List ℕ → Cursor → ℕ → FieldHead
field_head_at s c deeper = do
  name ← string_at s c 0 4096
  t ← uint_at s name.next
  known ← is_keyword_type t.value
  d ← judged t.next name.next.at known 5
  fits ← may_hold t.value deeper
  e ← judged d name.next.at fits 15
  v ← settled t.value e
  record { number = v.value; start = name.start; len = name.len; next = e }

-- "the String IPosition begins 4 bytes after the shape does and lies in the RecordDesc"
unfoldable pub is_iposition : List ℕ → Cursor → Bool
is_iposition s c = do
  d ← skipped c 4
  e ← name_at s d (bytes "IPosition")
  eqb e.refused 0

-- "a count and Ints": a uInt and as many Ints
unfoldable pub counted_at : List ℕ → Cursor → Cursor
counted_at s c = do
  n ← uint_at s c
  skipped_each n.next n.value 4

-- a shape, in either form; its numbers are not judged
unfoldable pub shape_in_desc_at : List ℕ → Cursor → Cursor
shape_in_desc_at s c = cond (is_iposition s c) (iposition_at s c) (counted_at s c)

-- what a type other than a record's asks for: "a shape for an array, a TableDesc name for a Table", nothing for a scalar
unfoldable pub specific_at : List ℕ → Cursor → ℕ → Cursor
specific_at s c number =
    cond (is_array_type number) (shape_in_desc_at s c) (cond (is_table_type number) (string_at s c 0 4096).next c)

-- "a comment, which version 1 has not"
unfoldable pub comment_at : List ℕ → Cursor → ℕ → Cursor
comment_at s c version = cond (eqb version 2) (string_at s c 0 4096).next c

-- one field: name, type, what the type asks for, comment; `held` reads what the type asks for
unfoldable pub field_past : (Cursor → ℕ → Cursor) → List ℕ → ℕ → ℕ → Cursor → Cursor
field_past held s deeper version c = do
  f ← field_head_at s c deeper
  e ← held f.next f.number
  comment_at s e version

-- a RecordDesc: header, "the number of fields (negative: 4)", the fields
unfoldable pub desc_with : (Cursor → ℕ → Cursor) → List ℕ → ℕ → Cursor → Cursor
desc_with held s deeper c = do
  o ← opened s c (bytes "RecordDesc") 1 2
  n ← number_at s o.next 4 0 2147483647
  e ← after (λ (d : Cursor) (i : ℕ). field_past held s deeper o.value d) n.next n.value
  closed e c

-- what every type asks for, a record its own RecordDesc: `deeper` is how many levels of records may still be entered
unfoldable pub type_desc_at : ℕ → List ℕ → Cursor → ℕ → Cursor
type_desc_at zero s c number = specific_at s c number
type_desc_at (suc d) s c number =
    let desc = desc_with (λ (e : Cursor) (n : ℕ). type_desc_at d s e n) s d c in
    cond (is_record_type number) desc (specific_at s c number)
