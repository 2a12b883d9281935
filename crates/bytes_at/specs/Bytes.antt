-- Lists of bytes.
use Rattle.std.specs.Prelude.{ℕ, List, [], ◌∷◌, Bool, true, false, ◌&&◌, length, get_or, take, eqb}
use Prim.Native.Char.{code}
use Prim.Native.String.{String, [] as end, ◌∷◌ as ◌next◌}
use Rattle.bytes_at.specs.Lists.{first_below}

-- the bytes of a quoted ASCII text
abbrev pub bytes : String → List ℕ
bytes end = []
bytes (c next s) = code c ∷ bytes s

-- whether two lists of bytes are the same
unfoldable pub same_bytes : List ℕ → List ℕ → Bool
same_bytes [] [] = true
same_bytes [] (y ∷ ys) = false
same_bytes (x ∷ xs) [] = false
same_bytes (x ∷ xs) (y ∷ ys) = eqb x y && same_bytes xs ys

-- how many bytes stand before the first zero byte; all of them where there is none
unfoldable pub first_zero : List ℕ → ℕ
first_zero s = first_below (λ (i : ℕ). eqb (get_or s i 0) 0) (length s)

-- "stops before the first zero byte, or runs to the maximum if there is none"
unfoldable pub before_zero : List ℕ → List ℕ
before_zero s = take (first_zero s) s
