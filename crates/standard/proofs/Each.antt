-- Loops over a list that test each element: of the list those from i on are left. Assumes nothing.
use mathlib.Core.Path.{◌≡◌, refl, sym, ap, ◌∙◌}
use mathlib.Core.Bool.{Bool, true, false}
use mathlib.Core.List.{List, [], ◌∷◌}
use Prim.Native.Nat.{ℕ, zero, suc, ◌+◌, ◌-◌, ◌≤◌, ◌<◌}
use native.Mathlib.Numerals.{add-one}
use native.Mathlib.Omega.{arith}
use lib.ListN.{length, get_or, take, drop, length-drop}
use Rattle.bytes_at.specs.Lists.{all, pairs}

module _ {A : Type 0} (d : A) where
  drop_suc : (xs : List A) (i : ℕ) → i < length xs → drop i xs ≡ get_or xs i d ∷ drop (suc i) xs
  drop_suc [] i h = absurd (omega arith)
  drop_suc (x ∷ xs) zero h = refl
  drop_suc (x ∷ xs) (suc i) h = drop_suc xs i (omega arith)

  pub drop_at : (xs : List A) (i : ℕ) → i < length xs → drop i xs ≡ get_or xs i d ∷ drop (i + 1) xs
  drop_at xs i h = rw add-one (drop_suc xs i h)

pub drop_end : {A : Type 0} (xs : List A) (i : ℕ) → length xs ≤ i → drop i xs ≡ []
drop_end [] zero h = refl
drop_end [] (suc i) h = refl
drop_end (x ∷ xs) zero h = absurd (omega arith)
drop_end (x ∷ xs) (suc i) h = drop_end xs i (omega arith)

take_all : {A : Type 0} (xs : List A) → take (length xs) xs ≡ xs
take_all [] = refl
take_all (x ∷ xs) = ap (λ l. x ∷ l) (take_all xs)

-- a slice from i on
pub take_rest : {A : Type 0} (xs : List A) (i : ℕ) → take (length xs - i) (drop i xs) ≡ drop i xs
take_rest xs i = rw (← (length-drop i xs)) (take_all (drop i xs))

-- one test at each
module _ {A : Type 0} (f : A → Bool) (xs : List A) (i : ℕ) (v : all f xs ≡ all f (drop i xs)) where
  pub each_on : (d : A) {r : Bool} → i < length xs → r ≡ f (get_or xs i d) → r ≡ true → all f xs ≡ all f (drop (i + 1) xs)
  unfolding all
  each_on d h e t = v ∙ rw (drop_at d xs i h, ← e, t)

  pub each_off : (d : A) {r : Bool} → i < length xs → r ≡ f (get_or xs i d) → r ≡ false → false ≡ all f xs
  unfolding all
  each_off d h e t = sym (v ∙ rw (drop_at d xs i h, ← e, t))

  pub each_end : length xs ≤ i → true ≡ all f xs
  unfolding all
  each_end h = sym (v ∙ rw (drop_end xs i h))

-- one test at each two
module _ {A : Type 0} (f : A → A → Bool) (xs : List A) (i : ℕ) (v : pairs f xs ≡ pairs f (drop i xs)) where
  pub pair_on : (d : A) {r : Bool} {ys : List A} → i < length xs → ys ≡ drop (i + 1) xs → r ≡ all (f (get_or xs i d)) ys → r ≡ true → pairs f xs ≡ pairs f (drop (i + 1) xs)
  unfolding pairs
  pair_on d h q e t = v ∙ rw (drop_at d xs i h, ← q, ← e, t)

  pub pair_off : (d : A) {r : Bool} {ys : List A} → i < length xs → ys ≡ drop (i + 1) xs → r ≡ all (f (get_or xs i d)) ys → r ≡ false → false ≡ pairs f xs
  unfolding pairs
  pair_off d h q e t = sym (v ∙ rw (drop_at d xs i h, ← q, ← e, t))

  pub pair_end : length xs ≤ i → true ≡ pairs f xs
  unfolding pairs
  pair_end h = sym (v ∙ rw (drop_end xs i h))

-- what holds of the first n elements holds of a list of just those
pub of_first : {A : Type 0} (P : A → Type 0) (d : A) (xs : List A) (n : ℕ) → ((k : ℕ) → k < n → P (get_or xs k d)) → (k : ℕ) → k < length (take n xs) → P (get_or (take n xs) k d)
of_first P d xs zero h k l = absurd (omega arith)
of_first P d [] (suc n) h k l = absurd (omega arith)
of_first P d (x ∷ xs) (suc n) h zero l = h 0 (omega arith)
of_first P d (x ∷ xs) (suc n) h (suc k) l = of_first P d xs n (λ j g. h (suc j) (omega arith)) k (omega arith)
