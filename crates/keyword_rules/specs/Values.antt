-- RULES.md 4.12 and 4.13, and Note 260, sections 2 and 2.1: the types of keywords, and the values that hold no record, their fields
-- in file order.
use Rattle.std.specs.Prelude.{ℕ, ◌+◌, ◌*◌, ◌-◌, ◌/◌, ◌≤◌, ◌≡◌, List, Bool, true, false, cond, ◌&&◌, take, drop, leb, ltb, eqb, min, Option, is_some}
use Rattle.bytes_at.specs.Number.{uint_of}
use Rattle.bytes_at.specs.Bytes.{bytes, same_bytes}
use Rattle.bytes_at.specs.Steps.{◌>>=◌, after}
use Rattle.aipsio_rules.specs.declared.Cursor.{Cursor}
use Rattle.aipsio_rules.specs.declared.Value.{Value}
use Rattle.aipsio_rules.specs.declared.Text.{Text}
use Rattle.aipsio_rules.specs.Field.{skipped, skipped_each, judged, settled, uint_at, version_at, code_at, flag_at, text_at, string_at}
use Rattle.aipsio_rules.specs.Object.{entered, closed}
use Rattle.table_rules.specs.declared.data_type.DataType.{DataType}
use Rattle.table_rules.specs.DataType.{element_bits, with_number}

-- "Array numbers are 13 and 15 to 24 for types 0 and 2 to 11, then 30 for Int64"
abbrev pub is_array_type : ℕ → Bool
is_array_type n = cond (eqb n 13) true (cond (eqb n 30) true (leb 15 n && leb n 24))

-- the type of an array's elements
abbrev pub element_type : ℕ → ℕ
element_type n = cond (eqb n 30) 29 (n - 13)

-- "12 is Table, 25 Record"
abbrev pub is_table_type : ℕ → Bool
is_table_type n = eqb n 12

abbrev pub is_record_type : ℕ → Bool
is_record_type n = eqb n 25

abbrev pub is_known : Option DataType → Bool
is_known t = is_some t

-- the numbers that a keyword's type may have: those of 4.3, of arrays, Table and Record
unfoldable pub is_keyword_type : ℕ → Bool
is_keyword_type n = cond (is_table_type n) true (cond (is_record_type n) true (cond (is_array_type n) true (is_known (with_number n))))

-- "the old name Array with any text in angle brackets counts too": the first six bytes are Array<, the last is >
unfoldable pub is_array_name : List ℕ → Text → Bool
is_array_name s t =
    cond (same_bytes (take t.len (drop t.start s)) (bytes "Array"))
    true
    (cond (ltb t.len 7)
    false
    (cond (same_bytes (take 6 (drop t.start s)) (bytes "Array<")) (eqb (uint_of true 1 s (t.next.at - 1)) 62) false))

-- an Array object's name, else 2
unfoldable pub array_name_at : List ℕ → Cursor → Cursor
array_name_at s c = do
  t ← text_at s c
  ok ← is_array_name s t
  judged t.next c.at ok 2

-- an Array object's header: "versions 1 to 3". Gives the version, and the cursor at the object's first field.
unfoldable pub array_opened : List ℕ → Cursor → Value
array_opened s c = do
  len ← uint_at s c
  d ← array_name_at s len.next
  v ← version_at s d 1 3
  e ← entered v.next c len.value
  settled v.value e

-- "the first two with as many origin Ints ahead of the shape"
unfoldable pub origin_at : Cursor → ℕ → ℕ → Cursor
origin_at c version n = cond (ltb version 3) (skipped_each c n 4) c

-- A product is counted to 2^32 at most: "table.dat has no room for as many elements" (`ProductsCount`).
abbrev pub capped : ℕ → ℕ
capped n = min n 4294967296

-- one axis more, "not negative (else 5)", into the product
unfoldable pub length_into : List ℕ → Value → Value
length_into s product = do
  axis ← code_at s product.next 0 2147483647
  more ← capped (product.value * axis.value)
  settled more axis.next

-- the number of elements: the product of n axes, "without axes 0"
unfoldable pub lengths_at : List ℕ → Cursor → ℕ → Value
lengths_at s c n = after (λ (product : Value) (i : ℕ). length_into s product) (record { value = cond (eqb n 0) 0 1; next = c }) n

-- n Strings
unfoldable pub strings_at : List ℕ → Cursor → ℕ → Cursor
strings_at s c n = after (λ (d : Cursor) (i : ℕ). (string_at s d 0 4096).next) c n

-- n elements of a type: "Its Bools are bits, in whole bytes." What has no bits of its own is a String.
unfoldable pub values_at : List ℕ → Cursor → ℕ → ℕ → Cursor
values_at s c number n = do
  each ← element_bits number
  cond (eqb each 1)
      (skipped_each c ((n + 7) / 8) 1)
      (cond (eqb (each / 8) 0) (strings_at s c n) (skipped_each c n (each / 8)))

-- an Array object (Note 260, 2.1): header, number of axes, origin, axes, elements
unfoldable pub array_at : List ℕ → Cursor → ℕ → Cursor
array_at s c number = do
  o ← array_opened s c
  n ← uint_at s o.next
  d ← origin_at n.next o.value n.value
  product ← lengths_at s d n.value
  e ← values_at s product.next number product.value
  closed e c

-- the same with the whole product
unfoldable pub length_whole : List ℕ → Value → Value
length_whole s product = do
  axis ← code_at s product.next 0 2147483647
  settled (product.value * axis.value) axis.next

unfoldable pub lengths_whole : List ℕ → Cursor → ℕ → Value
lengths_whole s c n = after (λ (product : Value) (i : ℕ). length_whole s product) (record { value = cond (eqb n 0) 0 1; next = c }) n

unfoldable pub array_whole : List ℕ → Cursor → ℕ → Cursor
array_whole s c number = do
  o ← array_opened s c
  n ← uint_at s o.next
  d ← origin_at n.next o.value n.value
  product ← lengths_whole s d n.value
  e ← values_at s product.next number product.value
  closed e c

-- Of every Array object in a file of at most 65,536 bytes: that the product is counted to 2^32 at most changes nothing.
abbrev pub ProductsCount : Type 0
ProductsCount = (s : List ℕ) (c : Cursor) (number : ℕ) → c.at ≤ 65536 → c.end ≤ 65536 → array_at s c number ≡ array_whole s c number

-- a scalar: "a Bool is a byte", a String a String, and so is a Table, whose name is stored
unfoldable pub scalar_at : List ℕ → Cursor → ℕ → Cursor
scalar_at s c number = do
  each ← element_bits number
  cond (eqb each 1)
      (flag_at s c).next
      (cond (eqb (each / 8) 0) (string_at s c 0 4096).next (skipped c (each / 8)))

-- a value that is no record
unfoldable pub plain_at : List ℕ → Cursor → ℕ → Cursor
plain_at s c number = cond (is_array_type number) (array_at s c (element_type number)) (scalar_at s c number)
