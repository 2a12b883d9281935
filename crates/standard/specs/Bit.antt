-- How the code finds a cell, and with how many looks: by halving, over the numbers in the index text.
use Rattle.std.specs.Prelude.{ℕ, ◌+◌, ◌-◌, ◌*◌, Bool, List}
use Rattle.bytes_at.specs.Number.{int_bytes, numbers_at, number_in}
use Rattle.standard_rules.specs.Looks.{halving_of}
use Rattle.standard_rules.specs.declared.Entry.{Entry}
use Rattle.standard_rules.specs.declared.Set.{Set}
use Rattle.standard_index.specs.Rows.{first_row_in}
use Rattle.standard.specs.declared.Located.{Located}

-- the entry of a row, and the looks
abbrev pub by_halving : Bool → List ℕ → Set → ℕ → Entry
by_halving big text s row = halving_of (numbers_at big (int_bytes s.wide) text s.lasts s.entries) row

-- the row's number within that entry
abbrev pub local_by : Bool → List ℕ → Set → ℕ → ℕ
local_by big text s row = row - first_row_in big (int_bytes s.wide) text s.lasts (by_halving big text s row).at

-- "First bit: 8 x (bucket start + offset) + r x cell bits"
unfoldable pub bit_by_halving : Bool → List ℕ → Set → ℕ → ℕ → ℕ → ℕ → ℕ
bit_by_halving big text s size offset bits row =
    8 * (512 + number_in big 4 text s.buckets (by_halving big text s row).at * size + offset) + local_by big text s row * bits

-- the cell, with the looks and the entries
abbrev pub located_by : Bool → List ℕ → Set → ℕ → ℕ → ℕ → ℕ → Located
located_by big text s size offset bits row =
    record { first = bit_by_halving big text s size offset bits row; looks = (by_halving big text s row).looks; entries = s.entries }

-- no cell
abbrev pub no_cell : Located
no_cell = record { first = 0; looks = 0; entries = 0 }
