-- RULES.md 5.8: where a cell is.
use Rattle.std.specs.Prelude.{ℕ, suc, ◌-◌, ◌+◌, ◌*◌, cond, List, [], ◌∷◌, leb, get_or}
use Rattle.standard_rules.specs.Header.{bucket_start}
use Rattle.standard_rules.specs.Map.{Map, set_of, first_row_of, column_at}

-- "A row's entry is the first in its column's set whose last row is not below it"
unfoldable pub entry_of : List ℕ → ℕ → ℕ
entry_of [] row = 0
entry_of (last ∷ lasts) row = let next = entry_of lasts row in cond (leb row last) 0 (suc next)

abbrev pub entry_in : Map → ℕ → ℕ → ℕ
entry_in m row c = entry_of (set_of m c).lasts row

-- "that entry's bucket number is the data bucket the index gives to the row"
abbrev pub bucket_in : Map → ℕ → ℕ → ℕ
bucket_in m row c = get_or (set_of m c).buckets (entry_in m row c) 0

-- "Local row r is the row less the preceding entry's last row (-1 before the first) less 1"
abbrev pub local_row : Map → ℕ → ℕ → ℕ
local_row m row c = row - first_row_of (set_of m c).lasts (entry_in m row c)

-- A run of bits: "first bit and bit count, counted from the file's start".
pub record Bits : Type 0 where
  pub first : ℕ
  pub count : ℕ

-- the bits of bucket b, where buckets have this size
abbrev pub bucket_bits : ℕ → ℕ → Bits
bucket_bits size b = record { first = 8 * bucket_start size b; count = 8 * size }

-- the header's 512 bytes
abbrev pub header_bits : Bits
header_bits = record { first = 0; count = 8 * 512 }

-- "First bit: 8 x (bucket start + offset) + r x cell bits"
abbrev pub place_of : Map → ℕ → ℕ → Bits
place_of m row c =
    record {
      first = 8 * (bucket_start m.size (bucket_in m row c) + (column_at m c).offset) + local_row m row c * (column_at m c).bits;
      count = (column_at m c).bits;
    }
