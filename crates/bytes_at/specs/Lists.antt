-- Tests over numbers and lists.
use Rattle.std.specs.Prelude.{Bool, true, false, ◌&&◌, not, cond, List, [], ◌∷◌, ℕ, suc, zero, ltb, eqb}

-- where the first test passes the second does
infixr 20 ◌⇒◌
abbrev pub ◌⇒◌ : Bool → Bool → Bool
true ⇒ b = b
false ⇒ b = true

-- the test passes at each element
unfoldable pub all : {A : Type 0} → (A → Bool) → List A → Bool
all f [] = true
all f (x ∷ xs) = f x && all f xs

-- the same, of a test that is told each element's number, k for the first
unfoldable pub all_from : {A : Type 0} → (ℕ → A → Bool) → ℕ → List A → Bool
all_from f k [] = true
all_from f k (x ∷ xs) = f k x && all_from f (suc k) xs

-- the test passes at each element with each later one
unfoldable pub pairs : {A : Type 0} → (A → A → Bool) → List A → Bool
pairs f [] = true
pairs f (x ∷ xs) = all (f x) xs && pairs f xs

-- "in range"
abbrev pub below : ℕ → ℕ → Bool
below count b = ltb b count

-- "different"
abbrev pub unlike : ℕ → ℕ → Bool
unlike a b = not (eqb a b)

-- the rule: the numbers of a list are below the bucket count and all different
unfoldable pub all_apart : ℕ → List ℕ → Bool
all_apart nb l = all (below nb) l && pairs unlike l

-- of the k numbers from i on: the first whose test passes, or i + k where none does
unfoldable pub first_from : (ℕ → Bool) → ℕ → ℕ → ℕ
first_from test zero i = i
first_from test (suc k) i = let rest = first_from test k (suc i) in cond (test i) i rest

-- the first number below n whose test passes, or n where none does
abbrev pub first_below : (ℕ → Bool) → ℕ → ℕ
first_below test n = first_from test n 0

-- the last number below n whose test passes, 0 where none does
unfoldable pub last_below : (ℕ → Bool) → ℕ → ℕ
last_below test zero = 0
last_below test (suc k) = let rest = last_below test k in cond (test k) k rest
