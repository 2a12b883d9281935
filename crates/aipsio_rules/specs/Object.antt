-- RULES.md 3.5 to 3.7, and Note 260, sections 2 to 2.4: objects.
use Rattle.std.specs.Prelude.{ℕ, ◌+◌, ◌*◌, List, cond, leb, eqb}
use Rattle.bytes_at.specs.Number.{bytes_of, int_width}
use Rattle.bytes_at.specs.Bytes.{bytes}
use Rattle.bytes_at.specs.Steps.{after, ◌>>=◌}
use Rattle.aipsio_rules.specs.declared.Cursor.{Cursor}
use Rattle.aipsio_rules.specs.declared.Value.{Value}
use Rattle.aipsio_rules.specs.Field.{latched, refused_at, left_in, skipped_each, judged, settled, uint_at, number_at, row_at, version_at, agreed, name_at}

-- into an object of len bytes whose header begins at `outer` and ends at the cursor: "its end against its container" (1),
-- and 7 "at the header if the length is below the header's own size"
unfoldable pub entered : Cursor → Cursor → ℕ → Cursor
entered c outer len =
    latched c
    (cond (leb len (left_in outer))
    (cond (leb c.at (outer.at + len))
    (record { at = c.at; end = outer.at + len; big = c.big; refused = 0 })
    (refused_at c outer.at 7))
    (refused_at c outer.at 1))

-- "A header is uInt length (itself and nested objects included), String name, uInt version."
-- Gives the version, and the cursor at the object's first field.
unfoldable pub opened : List ℕ → Cursor → List ℕ → ℕ → ℕ → Value
opened s c expected low high = do
  len ← uint_at s c
  d ← name_at s len.next expected
  v ← version_at s d low high
  e ← entered v.next c len.value
  settled v.value e

-- out of an object whose last field is read: "7 comes when its last field is read"
unfoldable pub closed : Cursor → Cursor → Cursor
closed c outer =
    latched c
    (cond (eqb c.at c.end)
    (record { at = c.at; end = outer.end; big = c.big; refused = 0 })
    (refused_at c outer.at 7))

-- out of an object whose fields are not looked at
unfoldable pub passed : Cursor → Cursor → Cursor
passed c outer = latched c (record { at = c.end; end = outer.end; big = c.big; refused = 0 })

-- "A TableRecord (1) is passed over by its length."
unfoldable pub record_at : List ℕ → Cursor → Cursor
record_at s c = do
  o ← opened s c (bytes "TableRecord") 1 1
  passed o.next c

-- "Block: header Block version 1, uInt count, elements": into a Block that has to have n elements, else 6
unfoldable pub block_head_at : List ℕ → Cursor → ℕ → Cursor
block_head_at s c n = do
  o ← opened s c (bytes "Block") 1 1
  agreed s o.next n

-- a Block of n uInts. Gives where they start.
unfoldable pub block_at : List ℕ → Cursor → ℕ → Value
block_at s c n = do
  k ← block_head_at s c n
  e ← skipped_each k n 4
  d ← closed e c
  settled k.at d

-- n row numbers of so many bytes, "one by one, in file order"
unfoldable pub rows_at : List ℕ → Cursor → ℕ → ℕ → Cursor
rows_at s c n width = after (λ (d : Cursor) (i : ℕ). (row_at s d width).next) c n

-- a Block of n row numbers, uInts or Int64s, which are looked at one by one. Gives where they start.
unfoldable pub row_block_at : List ℕ → Cursor → ℕ → ℕ → Value
row_block_at s c n width = do
  k ← block_head_at s c n
  e ← rows_at s k n width
  d ← closed e c
  settled k.at d

-- a SimpleOrderedMap of Int to Int (Note 260, 2.3): default value, number of entries, increment, and for each entry its key and its
-- value, two fields
unfoldable pub map_at : List ℕ → Cursor → Cursor
map_at s c = do
  o ← opened s c (bytes "SimpleOrderedMap") 1 1
  default ← uint_at s o.next
  n ← uint_at s default.next
  increment ← uint_at s n.next
  e ← skipped_each increment.next (2 * n.value) 4
  closed e c

-- an IPosition that is "read and not judged" (Note 260, 2.2); its axes: "version 1 Int, 2 Int64"
unfoldable pub iposition_at : List ℕ → Cursor → Cursor
iposition_at s c = do
  o ← opened s c (bytes "IPosition") 1 2
  n ← uint_at s o.next
  width ← int_width (eqb o.value 2)
  each ← bytes_of width
  e ← skipped_each n.next n.value each
  closed e c

-- one axis more: "each axis and the product so far 1 to 1,048,576", else 4
unfoldable pub axis_into : List ℕ → ℕ → Value → Value
axis_into s width product = do
  axis ← number_at s product.next width 1 1048576
  d ← judged axis.next product.next.at (leb (product.value * axis.value) 1048576) 4
  settled (product.value * axis.value) d

-- the product of n axes
unfoldable pub axes_at : List ℕ → Cursor → ℕ → ℕ → Value
axes_at s c n width = after (λ (product : Value) (i : ℕ). axis_into s width product) (record { value = 1; next = c }) n

-- the IPosition of a fixed shape: "dimensions of a fixed shape 1 to 8" (4), "the dimensionality is the IPosition's count" (5)
unfoldable pub shape_at : List ℕ → Cursor → ℕ → Value
shape_at s c dimensions = do
  o ← opened s c (bytes "IPosition") 1 2
  n ← number_at s o.next 4 1 8
  k ← judged n.next o.next.at (eqb n.value dimensions) 5
  width ← int_width (eqb o.value 2)
  product ← axes_at s k n.value (bytes_of width)
  d ← closed product.next c
  settled product.value d
