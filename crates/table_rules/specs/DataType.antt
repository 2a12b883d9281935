-- RULES.md 4.3: the data types.
use Rattle.std.specs.Prelude.{ℕ, ◌*◌, ◌≡◌, List, [], ◌∷◌, ◌++◌, get_or, take, eqb, ltb, Bool, ◌||◌, cond, Option, Some, None}
use Rattle.table_rules.specs.declared.data_type.DataType.{DataType}
use Rattle.bytes_at.specs.Bytes.{bytes, same_bytes}
use Rattle.bytes_at.specs.Lists.{first_below}

-- a row of the table: T, its number, and the bits of an element
pub record TypeRow : Type 0 where
  pub name : List ℕ
  pub number : ℕ
  pub bits : ℕ

abbrev row : List ℕ → ℕ → ℕ → TypeRow
row name number bits = record { name = name; number = number; bits = bits }

-- "Each data type carries its own size and number": the table of RULES.md 4.3, a byte being 8 bits. A String has no size of its own.
abbrev pub types : List TypeRow
types =
    -- | T | Number | Bytes of an element |
    row (bytes "Bool") 0 1  -- | Bool | 0 | a bit |
    ∷ row (bytes "uChar") 2 (1 * 8)  -- | uChar | 2 | 1 |
    ∷ row (bytes "Short") 3 (2 * 8)  -- | Short | 3 | 2 |
    ∷ row (bytes "uShort") 4 (2 * 8)  -- | uShort | 4 | 2 |
    ∷ row (bytes "Int") 5 (4 * 8)  -- | Int | 5 | 4 |
    ∷ row (bytes "uInt") 6 (4 * 8)  -- | uInt | 6 | 4 |
    ∷ row (bytes "float") 7 (4 * 8)  -- | float | 7 | 4 |
    ∷ row (bytes "double") 8 (8 * 8)  -- | double | 8 | 8 |
    ∷ row (bytes "Complex") 9 (8 * 8)  -- | Complex | 9 | 8 |
    ∷ row (bytes "DComplex") 10 (16 * 8)  -- | DComplex | 10 | 16 |
    ∷ row (bytes "String") 11 0  -- | String | 11 | none of its own: 4.5 |
    ∷ row (bytes "Int64") 29 (8 * 8)  -- | Int64 | 29 | 8 |
    ∷ []

-- past the table: no characters and no bits
abbrev pub no_row : TypeRow
no_row = row [] 0 0

abbrev pub nth_row : ℕ → TypeRow
nth_row i = get_or types i no_row

abbrev pub nth_type : ℕ → DataType
nth_type i = record { number = (nth_row i).number }

-- the place of a number in the table, 12 where it has none
unfoldable pub type_place : ℕ → ℕ
type_place n = first_below (λ (i : ℕ). eqb n (nth_row i).number) 12

-- a type's name; no characters for what is none of the types
unfoldable pub type_name : DataType → List ℕ
type_name t = (nth_row (type_place t.number)).name

-- "The bits of an element, from the number of its type", to be held beside Note 260's table of 3.4.2: its rows (| Data Type | Size |)
-- in their order, then everything else. Two of the note's sizes are corrected, behind a colon.
unfoldable pub element_bits : ℕ → ℕ
element_bits n =
    cond (eqb n 0) 1  -- | Bool | 1 byte |: a bit
    (cond (eqb n 2) (1 * 8)  -- | uChar | 1 byte |
    (cond (eqb n 3) (2 * 8)  -- | Short | 1 byte |: two bytes
    (cond (eqb n 4) (2 * 8)  -- | uShort | 2 byte |
    (cond (eqb n 5) (4 * 8)  -- | Int | 4 byte |
    (cond (eqb n 6) (4 * 8)  -- | uInt | 4 byte |
    (cond (eqb n 29) (8 * 8)  -- | Int64 | 8 byte |
    (cond (eqb n 7) (4 * 8)  -- | Float | 4 byte |
    (cond (eqb n 8) (8 * 8)  -- | Double | 8 bytes |
    (cond (eqb n 9) (8 * 8)  -- | Complex | 8 bytes |
    (cond (eqb n 10) (16 * 8)  -- | DComplex | 16 bytes |
    0))))))))))

-- For every number, the two tables agree: a type has the bits of its row in `types`, a String and a number without a row 0.
abbrev pub SizesAgree : Type 0
SizesAgree = (n : ℕ) → element_bits n ≡ (nth_row (type_place n)).bits

-- "T followed by spaces up to eight characters"
abbrev pub filled : List ℕ → List ℕ
filled name = take 8 (name ++ bytes "        ")

-- a name, "or by none"
abbrev pub is_name : List ℕ → List ℕ → Bool
is_name s name = same_bytes s name || same_bytes s (filled name)

abbrev pub known_at : ℕ → Option DataType
known_at i = cond (ltb i 12) (Some (nth_type i)) None

-- the type of a number
unfoldable pub with_number : ℕ → Option DataType
with_number n = known_at (type_place n)

-- the type of a name
unfoldable pub with_name : List ℕ → Option DataType
with_name s = known_at (first_below (λ (i : ℕ). is_name s (nth_row i).name) 12)

-- a Bool's number, and a String's
abbrev pub is_bool : ℕ → Bool
is_bool number = eqb number 0

abbrev pub is_string : ℕ → Bool
is_string number = eqb number 11
