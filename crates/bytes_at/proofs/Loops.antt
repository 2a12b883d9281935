-- What a loop's invariant `y ≡ after step x i` needs: at the start, after a turn, and at the end.
use mathlib.Core.Path.{◌≡◌, refl, sym, ap, ◌∙◌}
use Prim.Native.Nat.{ℕ, zero, suc, ◌+◌, ◌-◌, ◌≤◌}
use native.Mathlib.Numerals.{add-one}
use native.Mathlib.Nat.{add-zero, add-suc}
use native.Mathlib.Omega.{arith}
use Rattle.bytes_at.specs.Steps.{after}

module _ {A : Type 0} (step : A → ℕ → A) (x : A) where
  pub after_none : x ≡ after step x 0
  unfolding after
  after_none = refl

  pub after_more : (i : ℕ) {y z : A} → y ≡ after step x i → z ≡ step y i → z ≡ after step x (i + 1)
  unfolding after
  after_more i p q = rw add-one (q ∙ ap (λ (a : A). step a i) p)

  pub after_all : (i n : ℕ) {y : A} → y ≡ after step x i → i ≤ n → n ≤ i → y ≡ after step x n
  after_all i n p a b = let e : i ≡ n = omega arith in p ∙ ap (after step x) e

  -- a state that no further turn changes: the loop may be left
  still : (i : ℕ) {y : A} → y ≡ after step x i → ((j : ℕ) → step y j ≡ y) → (d : ℕ) → y ≡ after step x (i + d)
  unfolding after
  still i p h zero = rw add-zero p
  still i {y} p h (suc d) = rw (add-suc, ← still i p h d) (sym (h (i + d)))

  pub after_stop : (i n : ℕ) {y : A} → y ≡ after step x i → i ≤ n → ((j : ℕ) → step y j ≡ y) → y ≡ after step x n
  after_stop i n p a h = let e : i + (n - i) ≡ n = omega arith in still i p h (n - i) ∙ ap (after step x) e
