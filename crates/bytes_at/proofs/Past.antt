-- What stands past the end of an array. Assumes nothing.
use mathlib.Core.Path.{◌≡◌, sym, ◌∙◌}
use mathlib.Core.List.{List}
use Prim.Native.Nat.{ℕ, ◌≤◌}
use native.Mathlib.Omega.{arith}
use lib.ListN.{length, get_or, get_or-eq_default}

-- past the end of n elements stands the default
pub past : {A : Type 0} {r d : A} {i : ℕ} (n : ℕ) (xs : List A) → r ≡ d → length xs ≡ n → n ≤ i → r ≡ get_or xs i d
past {A} {r} {d} {i} n xs e l h = e ∙ sym (get_or-eq_default xs d {n = i} (omega arith))
