-- What std says of `any` and `position` over a list, as the first number whose test passes. Assumes nothing.
--     position_first     `position(..).unwrap_or(len)`
--     position_is        `position(..)`
--     any_first          `any`: whether that number is the length
--     first_front        a search of the first n elements
use mathlib.Core.Path.{◌≡◌, refl, sym, ap, ◌∙◌}
use mathlib.Core.List.{List, [], ◌∷◌}
use mathlib.Core.Bool.{Bool, true, false, not, cond, ◌||◌}
use Prim.Native.Nat.{ℕ, zero, suc, ◌+◌, ◌≤◌, ◌<◌, zero-le}
use native.Mathlib.Decide.{ℕ_discrete}
use native.Mathlib.Nat.{add_comm}
use native.Mathlib.Numerals.{add-one}
use native.Mathlib.Omega.{arith}
use lib.Dec.{eqb, ltb}
use lib.ListN.{length, get_or, take}
use borrow.Author.Tests.{eq-eqb, ne_eqb, lt-ltb, le-ltb}
use Rattle.std.specs.Prelude.{Some, None}
use Rattle.std.specs.Option.{unwrap_or}
use Rattle.std.specs.List.{list_any, position_or_len, position}
use Rattle.std.proofs.lemmas.List.{get_or-take}
use Rattle.std.proofs.lemmas.List.Recursion.{is_position_or_len}
use Rattle.bytes_at.specs.Lists.{first_from, first_below}

suc_cond : (b : Bool) (x y : ℕ) → cond b (suc x) (suc y) ≡ suc (cond b x y)
suc_cond true x y = refl
suc_cond false x y = refl

most : (b : Bool) (k n : ℕ) → k ≤ n → cond b 0 (suc k) ≤ suc n
most true k n h = zero-le
most false k n h = omega arith

within_len : (k n : ℕ) → k ≤ n → unwrap_or (cond (ltb k n) (Some k) None) n ≡ k
within_len k n h = elim (ℕ_discrete k n) [
  | yes e ↦ rw (e, le-ltb n n (omega arith))
  | no m ↦ rw (lt-ltb k n (omega arith))
]

-- a search that begins one number later
shifted : (test : ℕ → Bool) (k i : ℕ) → first_from test k (suc i) ≡ suc (first_from (λ (j : ℕ). test (suc j)) k i)
unfolding first_from
shifted test zero i = refl
shifted test (suc k) i = rw (shifted test k (suc i)) (suc_cond (test (suc i)) i _)

module _ {X : Type 0} (p : X → Bool) (d : X) where
  abbrev pub first_in : List X → ℕ
  first_in xs = first_below (λ (i : ℕ). p (get_or xs i d)) (length xs)

  first_cons : (x : X) (xs : List X) → first_in (x ∷ xs) ≡ cond (p x) 0 (suc (first_in xs))
  unfolding first_from
  first_cons x xs = rw (shifted (λ (i : ℕ). p (get_or (x ∷ xs) i d)) (length xs) 0) refl

  first_most : (xs : List X) → first_in xs ≤ length xs
  unfolding first_from
  first_most [] = zero-le
  first_most (x ∷ xs) = rw (first_cons x xs) (most (p x) _ _ (first_most xs))

  first_len : (xs : List X) → first_in xs ≡ position_or_len p xs
  unfolding first_from
  first_len = is_position_or_len first_in p refl (λ x xs. rw (add_comm, add-one) (first_cons x xs))

  pub position_first : (xs : List X) → unwrap_or (position p xs) (length xs) ≡ first_in xs
  position_first xs = rw (← first_len xs) (within_len _ _ (first_most xs))

  -- what `position` gives
  pub position_is : (xs : List X) → position p xs ≡ cond (ltb (first_in xs) (length xs)) (Some (first_in xs)) None
  position_is xs = rw (first_len xs)

  any_more : (b : Bool) (a : Bool) (k n : ℕ) → not a ≡ eqb k n → not (b || a) ≡ eqb (cond b 0 (suc k)) (suc n)
  any_more true a k n h = sym (ne_eqb 0 (suc n) (λ e. omega arith))
  any_more false a k n h = elim (ℕ_discrete k n) [
    | yes e ↦ h ∙ rw e (eq-eqb n n refl ∙ sym (eq-eqb (suc n) (suc n) refl))
    | no m ↦ h ∙ ne_eqb k n m ∙ sym (ne_eqb (suc k) (suc n) (λ e. m (omega arith)))
  ]

  pub any_first : (xs : List X) → not (list_any p xs) ≡ eqb (first_in xs) (length xs)
  unfolding first_from
  any_first [] = sym (eq-eqb 0 0 refl)
  any_first (x ∷ xs) = rw (first_cons x xs) (any_more (p x) (list_any p xs) (first_in xs) (length xs) (any_first xs))

agree_from : (f g : ℕ → Bool) (k i : ℕ) → ((j : ℕ) → j < i + k → f j ≡ g j) → first_from f k i ≡ first_from g k i
unfolding first_from
agree_from f g zero i h = refl
agree_from f g (suc k) i h = rw (h i (omega arith), agree_from f g k (suc i) (λ j l. h j (omega arith)))

pub first_front : {X : Type 0} (p : X → Bool) (d : X) (xs : List X) (n : ℕ)
    → first_below (λ (i : ℕ). p (get_or (take n xs) i d)) n ≡ first_below (λ (i : ℕ). p (get_or xs i d)) n
first_front p d xs n = agree_from _ _ n 0 (λ j l. ap p (get_or-take n xs j d (omega arith)))
