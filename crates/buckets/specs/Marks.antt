-- How the code decides `all_apart`: with a table of marks, one for each bucket that was met. No rule of RULES.md.
use Rattle.std.specs.Prelude.{Bool, ◌&&◌, true, List, [], ◌∷◌, ℕ, get_or, set, ltb, eqb}

-- The table of marks that decides it. Bucket b is in range and has no mark:
unfoldable pub is_unmarked : ℕ → List ℕ → ℕ → Bool
is_unmarked nb t b = ltb b nb && eqb (get_or t b 0) 0

-- each number of a list is fresh, and then marked, in its turn
unfoldable pub all_unmarked : ℕ → List ℕ → List ℕ → Bool
all_unmarked nb t [] = true
all_unmarked nb t (x ∷ xs) = let rest = all_unmarked nb (set t x 1) xs in is_unmarked nb t x && rest

-- the table when all are marked
unfoldable pub marked : List ℕ → List ℕ → List ℕ
marked t [] = t
marked t (x ∷ xs) = marked (set t x 1) xs
