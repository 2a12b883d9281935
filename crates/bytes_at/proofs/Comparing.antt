-- Laws of `same_bytes`, and a loop that compares two lists from the front.
-- Assumes nothing.
use mathlib.Core.Path.{◌≡◌, refl, ap}
use mathlib.Core.List.{List, [], ◌∷◌, ◌++◌}
use mathlib.Core.Bool.{Bool, true, false, ◌&&◌}
use Prim.Native.Nat.{ℕ, ◌+◌, ◌<◌, ◌≤◌}
use native.Mathlib.Decide.{ℕ_discrete}
use native.Mathlib.Numerals.{add-one}
use native.Mathlib.Nat.{zero-add, suc-add}
use lib.ListN.{length, get_or, take, drop, drop_of_length-le}
use lib.Seq.{drop-cons}
use lib.Dec.{eqb}
use lib.Pointwise.{pointwise}
use borrow.Author.Tests.{eq-eqb, ne_eqb}
use Rattle.bytes_at.specs.Bytes.{same_bytes}

pub same_self : (a : List ℕ) → same_bytes a a ≡ true
unfolding same_bytes
same_self [] = refl
same_self (x ∷ xs) = rw (eq-eqb x x refl) (same_self xs)

-- what `==` says of two slices
pub same_pointwise : (a b : List ℕ) → pointwise eqb a b ≡ same_bytes a b
unfolding same_bytes
same_pointwise [] [] = refl
same_pointwise [] (y ∷ ys) = refl
same_pointwise (x ∷ xs) [] = refl
same_pointwise (x ∷ xs) (y ∷ ys) = ap (λ (t : Bool). eqb x y && t) (same_pointwise xs ys)

pub unlike : (a b : List ℕ) → (a ≡ b → ⊥) → same_bytes a b ≡ false
unfolding same_bytes
unlike [] [] h = absurd (h refl)
unlike [] (y ∷ ys) h = refl
unlike (x ∷ xs) [] h = refl
unlike (x ∷ xs) (y ∷ ys) h =
    elim (ℕ_discrete x y) [ yes e ↦ rw (eq-eqb x y e) (unlike xs ys (λ q. h (cc))) | no n ↦ rw (ne_eqb x y n) ]

pub unequal_lengths : (a b : List ℕ) → (length a ≡ length b → ⊥) → same_bytes a b ≡ false
unequal_lengths a b h = unlike a b (λ e. h (ap length e))

module _ (a b : List ℕ) (i : ℕ) where
  pub one_more_lem : i < length a → i < length b → same_bytes (drop i a) (drop i b) ≡ eqb (get_or a i 0) (get_or b i 0) && same_bytes (drop (i + 1) a) (drop (i + 1) b)
  unfolding same_bytes
  one_more_lem p q = rw (add-one, drop-cons a i 0, drop-cons b i 0)

  pub at_the_end : length a ≤ i → length b ≤ i → same_bytes (drop i a) (drop i b) ≡ true
  unfolding same_bytes
  at_the_end p q = rw (drop_of_length-le a p, drop_of_length-le b q)

-- a text in two parts
both : (a b c : Bool) → a && (b && c) ≡ (a && b) && c
both true b c = refl
both false b c = refl

pub same_split : (f g l : List ℕ) (k : ℕ) → same_bytes (take (length f + k) l) (f ++ g) ≡ same_bytes (take (length f) l) f && same_bytes (take k (drop (length f) l)) g
unfolding same_bytes
same_split [] g l k = rw zero-add
same_split (x ∷ f) g [] k = rw suc-add
same_split (x ∷ f) g (y ∷ l) k = rw (suc-add, same_split f g l k) (both (eqb y x) (same_bytes (take (length f) l) f) (same_bytes (take k (drop (length f) l)) g))
