-- RULES.md 3.1 to 3.4, and Note 260, section 2: fields, read through a cursor that keeps its first refusal.
use Rattle.std.specs.Prelude.{ℕ, ◌+◌, ◌*◌, ◌-◌, ◌/◌, List, Bool, cond, ◌&&◌, take, drop, leb, eqb}
use Rattle.bytes_at.specs.Number.{uint_of}
use Rattle.bytes_at.specs.Bytes.{same_bytes}
use Rattle.bytes_at.specs.Steps.{◌>>=◌}
use Rattle.bytes_at.specs.declared.Refusal.{Refusal}
use Rattle.bytes_at.specs.Stages.{blaming}
use Rattle.aipsio_rules.specs.declared.Cursor.{Cursor}
use Rattle.aipsio_rules.specs.declared.Value.{Value}
use Rattle.aipsio_rules.specs.declared.Text.{Text}

-- An Int is the uInt of the same bytes: -1, -2 and -3.
abbrev pub minus_one : ℕ
minus_one = 4294967295

abbrev pub minus_two : ℕ
minus_two = 4294967294

abbrev pub minus_three : ℕ
minus_three = 4294967293

-- An Int64 is the number of the same 8 bytes: the largest that is not negative.
abbrev pub most_int64 : ℕ
most_int64 = 9223372036854775807

-- the cursor itself if it is refused; else what follows
abbrev pub latched : Cursor → Cursor → Cursor
latched c d = cond (eqb c.refused 0) d c

-- refused with a number, at the field that begins at `from`
abbrev pub refused_at : Cursor → ℕ → ℕ → Cursor
refused_at c from n = record { at = from; end = c.end; big = c.big; refused = n }

-- why a cursor is refused: its number, at the field where it stands
abbrev pub refusal_in : Cursor → Refusal
refusal_in c = blaming c.refused c.at

-- moved on to a place of the same object
abbrev pub moved_to : Cursor → ℕ → Cursor
moved_to c at = record { at = at; end = c.end; big = c.big; refused = 0 }

-- the bytes that the enclosing object has left
abbrev pub left_in : Cursor → ℕ
left_in c = c.end - c.at

-- past a field of n bytes; 1 where the enclosing object ends before
unfoldable pub skipped : Cursor → ℕ → Cursor
skipped c n = latched c (cond (leb n (left_in c)) (moved_to c (c.at + n)) (refused_at c c.at 1))

-- past n fields of `size` bytes each; 1 at the first that the enclosing object has no room for
unfoldable pub skipped_each : Cursor → ℕ → ℕ → Cursor
skipped_each c n size =
    let room = left_in c / size in
    latched c (cond (leb n room) (moved_to c (c.at + n * size)) (refused_at c (c.at + room * size) 1))

-- a field that begins at `from` is refused with the number unless the test holds
unfoldable pub judged : Cursor → ℕ → Bool → ℕ → Cursor
judged c from ok n = latched c (cond ok c (refused_at c from n))

-- a number with the cursor past it: 0 where the cursor is refused
unfoldable pub settled : ℕ → Cursor → Value
settled v c = record { value = cond (eqb c.refused 0) v 0; next = c }

-- a number of so many bytes
unfoldable pub sized_at : List ℕ → Cursor → ℕ → Value
sized_at s c width = do
  v ← uint_of c.big width s c.at
  d ← skipped c width
  settled v d

-- a uInt
unfoldable pub uint_at : List ℕ → Cursor → Value
uint_at s c = do
  v ← uint_of c.big 4 s c.at
  d ← skipped c 4
  settled v d

-- a number of a range, refused with the number given outside it
unfoldable pub ranged_at : List ℕ → Cursor → ℕ → ℕ → ℕ → ℕ → Value
ranged_at s c width low high refusal = do
  n ← sized_at s c width
  ok ← leb low n.value && leb n.value high
  d ← judged n.next c.at ok refusal
  settled n.value d

-- "a number outside the Ranges": 4
abbrev pub number_at : List ℕ → Cursor → ℕ → ℕ → ℕ → Value
number_at s c width low high = ranged_at s c width low high 4

-- a row number of so many bytes: "Negative row numbers give 4". A uInt is never negative.
abbrev pub row_at : List ℕ → Cursor → ℕ → Value
row_at s c width = number_at s c width 0 most_int64

-- "a version is not listed": 3
abbrev pub version_at : List ℕ → Cursor → ℕ → ℕ → Value
version_at s c low high = ranged_at s c 4 low high 3

-- a number that stands for one of a few things, else 5
abbrev pub code_at : List ℕ → Cursor → ℕ → ℕ → Value
code_at s c low high = ranged_at s c 4 low high 5

-- a count that was stated before, else 6
unfoldable pub agreed : List ℕ → Cursor → ℕ → Cursor
agreed s c expected = do
  v ← ranged_at s c 4 expected expected 6
  v.next

-- the mark BE BE BE BE before an outermost object, else 2
unfoldable pub mark_at : List ℕ → Cursor → Cursor
mark_at s c = do
  v ← ranged_at s c 4 0xbebebebe 0xbebebebe 2
  v.next

-- "a Bool byte is 0 or 1", else 5
abbrev pub flag_at : List ℕ → Cursor → Value
flag_at s c = ranged_at s c 1 0 1 5

-- the n bytes before the cursor
unfoldable pub text_before : Cursor → ℕ → Text
text_before c n =
    cond (eqb c.refused 0)
    (record { start = c.at - n; len = n; next = c })
    (record { start = 0; len = 0; next = c })

-- a String: a uInt length and its bytes, one field
unfoldable pub text_at : List ℕ → Cursor → Text
text_at s c = do
  n ← uint_of c.big 4 s c.at
  d ← skipped c (4 + n)
  text_before d n

-- into the bytes of a String: they are the container then
unfoldable pub container_of : Text → Cursor
container_of t = latched t.next (record { at = t.start; end = t.next.at; big = t.next.big; refused = 0 })

-- a String whose length lies in a range, else 4
unfoldable pub string_at : List ℕ → Cursor → ℕ → ℕ → Text
string_at s c low high = do
  t ← text_at s c
  ok ← leb low t.len && leb t.len high
  d ← judged t.next c.at ok 4
  text_before d t.len

-- a String that has to be the name given, else 2
unfoldable pub name_at : List ℕ → Cursor → List ℕ → Cursor
name_at s c expected = do
  t ← text_at s c
  found ← take t.len (drop t.start s)
  ok ← same_bytes found expected
  judged t.next c.at ok 2
