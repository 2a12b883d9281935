-- RULES.md 11.2: the small file's cases A to L, as one list, and those of the little endian one and of the one with rows of 64 bits.
-- Each is asked of the bytes of both files with the definitions that answer the questions, and with an index room of 150 bytes, more
-- than any of the index texts takes (134, 142 and 126 bytes).
use Rattle.std.specs.Prelude.{◌≡◌, Bool, true, false, ◌&&◌, List, [], ◌∷◌, ◌++◌, ℕ, ◌*◌, take, drop, set, replicate, eqb}
use Rattle.bytes_at.specs.Number.{uint_of}
use Rattle.bytes_at.specs.declared.Refusal.{Refusal}
use Rattle.bytes_at.specs.Bytes.{same_bytes}
use Rattle.bytes_at.specs.Lists.{all}
use Rattle.standard_rules.specs.Header.{header_at}
use Rattle.lookup_rules.specs.declared.Asked.TheVariants.{Position}
use Rattle.lookup_rules.specs.declared.Question.{Question}
use Rattle.lookup_rules.specs.declared.Question.TheVariants.{Check, Place, View}
use Rattle.lookup_rules.specs.Questions.{no_plan, same_plan, answer_of, room_after}
use Rattle.cases.specs.SmallFile.{table_dat, f0, little_dat, little_f0, wide_dat, wide_f0, bools_dat, bools_f0}

-- positions of the columns
abbrev SCAN : ℕ
SCAN = 0

abbrev FLAG : ℕ
FLAG = 1

abbrev TIME : ℕ
TIME = 2

abbrev room_length : ℕ
room_length = 150

abbrev cell_in : ℕ → ℕ → Question
cell_in row c = Place row (Position c)

-- "three index buckets (1, 3, 4) of 56": the n bytes of index text in them
abbrev text_in : List ℕ → ℕ → List ℕ
text_in f n = take n (take 56 (drop 584 f) ++ take 56 (drop 712 f) ++ take 56 (drop 776 f))

-- the answer is so many bits from a bit on, and the room holds the n bytes of index text, then zeros
abbrev gives : List ℕ → List ℕ → ℕ → Question → ℕ → ℕ → Bool
gives t f n q first count =
    let a = answer_of t f q room_length in
    let left = text_in f n ++ replicate 150 0 in
    eqb a.refused.number 0 && eqb a.first first && eqb a.count count && same_bytes (room_after t f q room_length) (take 150 left)

-- it is refused with a number, above 7, and zeros, and the room is all zero
abbrev refuses : List ℕ → List ℕ → Question → ℕ → Bool
refuses t f q n =
    let a = answer_of t f q room_length in
    eqb a.refused.number n && eqb a.refused.byte 0 && same_plan a.plan no_plan && eqb a.first 0 && eqb a.count 0 && eqb a.looks 0 && eqb a.entries 0
    && same_bytes (room_after t f q room_length) (replicate 150 0)

-- The small file in one of its forms: table.dat and table.f0, the length of its index text, and where the low bytes stand of TIME's
-- offset, of ColumnSet's row count, of the second last row and of the number of index buckets.
pub record SmallTable : Type 0 where
  pub big : Bool
  pub table : List ℕ
  pub file : List ℕ
  pub text : ℕ
  pub offset_at : ℕ
  pub rows_at : ℕ
  pub last_at : ℕ
  pub buckets_at : ℕ

abbrev in_big : SmallTable
in_big = record { big = true; table = table_dat; file = f0; text = 134; offset_at = 933; rows_at = 816; last_at = 760; buckets_at = 53 }

abbrev in_little : SmallTable
in_little = record { big = false; table = little_dat; file = little_f0; text = 134; offset_at = 978; rows_at = 816; last_at = 757; buckets_at = 50 }

abbrev in_wide : SmallTable
in_wide = record { big = true; table = wide_dat; file = wide_f0; text = 142; offset_at = 937; rows_at = 820; last_at = 776; buckets_at = 53 }

-- table.dat with another offset of TIME
abbrev time_at : SmallTable → ℕ → List ℕ
time_at s offset = set s.table s.offset_at offset

-- table.dat with another row count: byte 24, in the Table header, and in the ColumnSet
abbrev with_rows : SmallTable → ℕ → List ℕ
with_rows s rows = set (set s.table 24 rows) s.rows_at rows

-- table.f0 with another second last row
abbrev with_last : SmallTable → ℕ → List ℕ
with_last s last = set s.file s.last_at last

-- table.f0 with another number of index buckets
abbrev with_index_buckets : SmallTable → ℕ → List ℕ
with_index_buckets s n = set s.file s.buckets_at n

-- the refusal of the header of a file that ends after n bytes
abbrev header_of : SmallTable → ℕ → Refusal
header_of s n = (header_at (take n s.file) s.big).refused

-- A to K
unfoldable pub cases_of : SmallTable → List Bool
cases_of s =
    -- A: TIME row 5 is bytes 537 to 544
    gives s.table s.file s.text (cell_in 5 TIME) (8 * 537) 64
    -- B: TIME row 2 begins at byte 673, in bucket 2
    ∷ gives s.table s.file s.text (cell_in 2 TIME) (8 * 673) 64
    -- C: FLAG row 5 is bit 4,225
    ∷ gives s.table s.file s.text (cell_in 5 FLAG) 4225 1
    -- D: SCAN row 6 begins at byte 520
    ∷ gives s.table s.file s.text (cell_in 6 SCAN) (8 * 520) 32
    -- E: row 7 gives 9
    ∷ refuses s.table s.file (cell_in 7 TIME) 9
    -- F: view of FLAG gives 14
    ∷ refuses s.table s.file (View 5 (Position FLAG)) 14
    -- G: TIME at 16 gives 11
    ∷ refuses (time_at s 16) s.file (cell_in 5 TIME) 11
    -- H: last rows 3, 8 with 9 rows give 11
    ∷ refuses (with_rows s 9) (with_last s 8) (cell_in 5 TIME) 11
    -- I: index number 2 for three links gives 10
    ∷ refuses s.table (with_index_buckets s 2) (cell_in 5 TIME) 10
    -- J: TIME at 32 is accepted, at 33 gives 11
    ∷ gives (time_at s 32) s.file s.text (Check 0) 0 0
    ∷ gives (time_at s 32) s.file s.text (cell_in 0 TIME) (8 * 672) 64
    ∷ refuses (time_at s 33) s.file (cell_in 0 TIME) 11
    -- K: the StandardStMan header object is 70 bytes, 74 with mark; where only its end is missing, it is blamed at its header, byte 4
    ∷ eqb (uint_of s.big 4 s.file 4) 70
    ∷ (eqb (header_of s 74).number 0 && eqb (header_of s 73).number 1 && eqb (header_of s 73).byte 4)
    ∷ []

-- A to L
unfoldable pub cases : List Bool
cases =
    cases_of in_big
    -- L: 8 Bools per row, row 1, offset 0, bucket 0: bits 4,104 to 4,111
    ++ (gives bools_dat bools_f0 126 (cell_in 1 0) 4104 8 ∷ [])

-- A to K once more, of the little endian file; and what is no longer read: its table with the big endian file, whose Bool says
-- little endian (byte 29)
unfoldable pub little_cases : List Bool
little_cases =
    cases_of in_little
    ++ ((eqb (header_at (set f0 29 0) false).refused.number 1 && eqb (header_at (set f0 29 0) false).refused.byte 8) ∷ [])

-- A to K once more, of the file with rows of 64 bits; and a second last row whose low half alone is right: 2^32 + 6
unfoldable pub wide_cases : List Bool
wide_cases = cases_of in_wide ++ (refuses wide_dat (set wide_f0 764 1) (cell_in 5 TIME) 11 ∷ [])

-- Every case comes out as RULES.md 11.2 says.
abbrev pub Right : Type 0
Right = all (λ (b : Bool). b) cases ≡ true

abbrev pub LittleRight : Type 0
LittleRight = all (λ (b : Bool). b) little_cases ≡ true

abbrev pub WideRight : Type 0
WideRight = all (λ (b : Bool). b) wide_cases ≡ true
