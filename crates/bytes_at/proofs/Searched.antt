-- A loop that looks for the first number below n whose test passes: i numbers are tested, and none passed.
-- Assumes nothing.
use mathlib.Core.Path.{◌≡◌, sym, ap, ◌∙◌}
use mathlib.Core.Bool.{Bool, true, false, cond, not}
use mathlib.Core.List.{List, [], ◌∷◌}
use lib.ListN.{length, get_or}
use lib.Dec.{ltb}
use borrow.Author.Tests.{lt-ltb, le-ltb}
use native.Mathlib.Decide.{dec_lt}
use Rattle.std.proofs.lemmas.List.Sums.{prefix_len-le-length}
use Rattle.std.proofs.Common.{Option, Some, None}
use Rattle.std.specs.Option.{unwrap_or}
use Rattle.std.specs.List.{position_or_len}
use Prim.Native.Nat.{ℕ, zero, suc, ◌+◌, ◌-◌, ◌≤◌, ◌<◌, zero-le}
use native.Mathlib.Omega.{arith}
use native.Mathlib.Numerals.{add-one}
use Rattle.bytes_at.specs.Lists.{first_from, first_below}

pub record Searched (test : ℕ → Bool) (n i : ℕ) : Type 0 where
  pub within : i ≤ n
  pub same : first_below test n ≡ first_from test (n - i) i

pub searched_none : (test : ℕ → Bool) (n : ℕ) → Searched test n 0
searched_none test n = let e : n ≡ n - 0 = omega arith in record { within = zero-le; same = ap (λ (k : ℕ). first_from test k 0) e }

-- one number left, or none
here : (test : ℕ → Bool) (k i : ℕ) → 0 < k → test i ≡ true → first_from test k i ≡ i
unfolding first_from
here test zero i h e = absurd (omega arith)
here test (suc k) i h e = rw e

on : (test : ℕ → Bool) (k l i : ℕ) → k ≡ suc l → test i ≡ false → first_from test k i ≡ first_from test l (i + 1)
unfolding first_from
on test k l i q e = rw (q, e, add-one)

out : (test : ℕ → Bool) (k i : ℕ) → k ≡ 0 → first_from test k i ≡ i
unfolding first_from
out test k i q = rw q

pub searched_here : {test : ℕ → Bool} {n i : ℕ} → Searched test n i → i < n → test i ≡ true → i ≡ first_below test n
searched_here {test} {n} {i} v h e = sym (v.same ∙ here test (n - i) i (omega arith) e)

pub searched_on : {test : ℕ → Bool} {n i : ℕ} → Searched test n i → i < n → test i ≡ false → Searched test n (i + 1)
searched_on {test} {n} {i} v h e =
    record { within = omega arith; same = v.same ∙ on test (n - i) (n - (i + 1)) i (omega arith) e }

pub searched_out : {test : ℕ → Bool} {n i : ℕ} → Searched test n i → n ≤ i → i ≡ first_below test n
searched_out {test} {n} {i} v h = sym (v.same ∙ out test (n - i) i (omega arith))

-- what `position` finds in a list, or the list's length
found_or : (k n : ℕ) → k ≤ n → unwrap_or (cond (ltb k n) (Some k) None) n ≡ k
found_or k n h = elim (dec_lt k n) [ yes l ↦ rw (lt-ltb k n l) | no l ↦ rw (le-ltb k n (omega arith)) (omega arith) ]

module _ {A : Type 0} (p : A → Bool) (s : List A) where
  pub first_or_len : {r : Option ℕ} {n : ℕ} → r ≡ cond (ltb (position_or_len p s) (length s)) (Some (position_or_len p s)) None → n ≡ unwrap_or r (length s) → n ≡ position_or_len p s
  first_or_len e q = q ∙ ap (λ (r : Option ℕ). unwrap_or r (length s)) e ∙ found_or (position_or_len p s) (length s) (prefix_len-le-length (λ x. not (p x)) s)

  pub within_len : {n : ℕ} → n ≡ position_or_len p s → n ≤ length s
  within_len e = omega (arith, prefix_len-le-length (λ x. not (p x)) s)

-- the same by the elements' numbers
one_on : (b : Bool) (i r t : ℕ) → suc i + r ≡ t → i + cond (not b) (1 + r) 0 ≡ cond b i t
one_on true i r t e = omega arith
one_on false i r t e = omega arith

from_is : {A : Type 0} (p : A → Bool) (d : A) (f : ℕ → Bool) (l : List A) (i : ℕ) → ((k : ℕ) → k < length l → f (i + k) ≡ p (get_or l k d)) → i + position_or_len p l ≡ first_from f (length l) i
unfolding first_from
from_is p d f [] i h = omega arith
from_is p d f (x ∷ l) i h =
    let z : i ≡ i + 0 = omega arith in
    let q : f i ≡ p x = ap f z ∙ h 0 (omega arith) in
    let more : (k : ℕ) → k < length l → f (suc i + k) ≡ p (get_or l k d) = λ k b. (let n : suc i + k ≡ i + suc k = omega arith in ap f n ∙ h (suc k) (omega arith)) in
    rw q (one_on (p x) i (position_or_len p l) (first_from f (length l) (suc i)) (from_is p d f l (suc i) more))

pub first_below_is : {A : Type 0} (p : A → Bool) (s : List A) (d : A) → position_or_len p s ≡ first_below (λ (i : ℕ). p (get_or s i d)) (length s)
first_below_is p s d =
    let o : position_or_len p s ≡ 0 + position_or_len p s = omega arith in
    o ∙ from_is p d (λ (i : ℕ). p (get_or s i d)) s 0 (λ k h. let z : 0 + k ≡ k = omega arith in ap (λ (i : ℕ). p (get_or s i d)) z)
