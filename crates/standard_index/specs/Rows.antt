-- How the code finds the first row of an entry: over the last rows, where they stand in the index text.
use Rattle.std.specs.Prelude.{ℕ, zero, suc, ◌+◌, Bool, List}
use Rattle.bytes_at.specs.Number.{number_in}

-- the first row of entry k: "the preceding entry's last row (-1 before the first)" and 1
unfoldable pub first_row_in : Bool → ℕ → List ℕ → ℕ → ℕ → ℕ
first_row_in big width s at zero = 0
first_row_in big width s at (suc k) = number_in big width s at k + 1
