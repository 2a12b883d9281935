-- Numbers that stand one after another, one by one.
-- Assumes nothing.
use mathlib.Core.Path.{◌≡◌, refl, ap, ◌∙◌}
use mathlib.Core.Bool.{Bool}
use mathlib.Core.List.{List}
use Prim.Native.Nat.{ℕ, zero, suc, ◌+◌, ◌*◌, ◌≤◌, ◌<◌}
use native.Mathlib.Nat.{mul-le-mul_right, suc-mul, add-mul}
use native.Mathlib.Omega.{arith}
use lib.ListN.{length, get_or}
use Rattle.bytes_at.specs.Number.{uint_of, number_in, numbers_at}

pub numbers_length : (big : Bool) (w : ℕ) (s : List ℕ) (at n : ℕ) → length (numbers_at big w s at n) ≡ n
unfolding numbers_at
numbers_length big w s at zero = refl
numbers_length big w s at (suc n) = ap suc (numbers_length big w s (at + w) n)

-- number k of n is the one k widths on
pub number_at : (big : Bool) (w : ℕ) (s : List ℕ) (at n k : ℕ) → k < n → get_or (numbers_at big w s at n) k 0 ≡ number_in big w s at k
unfolding numbers_at
number_at big w s at zero k h = absurd (omega arith)
number_at big w s at (suc n) zero h = let e : at ≡ at + 0 * w = omega arith in ap (uint_of big w s) e
number_at big w s at (suc n) (suc k) h =
    let e : at + w + k * w ≡ at + suc k * w = omega (arith, suc-mul k w) in
    number_at big w s (at + w) n k (omega arith) ∙ ap (uint_of big w s) e

-- n widths from a place on have room for number k
pub room_for : (at n k w : ℕ) {l : ℕ} → k < n → at + n * w ≤ l → at + (k + 1) * w ≤ l
room_for at n k w h r = let g : k + 1 ≤ n = omega arith in omega (arith, mul-le-mul_right {m = k + 1} {n = n} w g)

-- where number k begins, `size` being the width as the code has it
pub place_le : (at k w : ℕ) {size l : ℕ} → size ≡ w → at + (k + 1) * w ≤ l → at + k * size ≤ l
place_le at k w e r = rw e (omega (arith, add-mul k 1 w))

pub number_is : (big : Bool) (w : ℕ) (s : List ℕ) (at k : ℕ) {size r : ℕ} → size ≡ w → r ≡ uint_of big w s (at + k * size) → r ≡ number_in big w s at k
number_is big w s at k e p = p ∙ ap (λ (z : ℕ). uint_of big w s (at + k * z)) e
