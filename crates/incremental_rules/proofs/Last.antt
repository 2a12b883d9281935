-- The last number below n whose test passes.
-- Assumes nothing.
use mathlib.Core.Path.{◌≡◌, refl, sym, ap, ◌∙◌}
use mathlib.Core.Bool.{Bool, true, false, false≢true}
use Prim.Native.Nat.{ℕ, zero, suc, ◌<◌}
use native.Mathlib.Decide.{ℕ_discrete}
use native.Mathlib.Nat.{not-suc-le-zero}
use native.Mathlib.Omega.{arith}
use Rattle.bytes_at.specs.Lists.{last_below}

module _ (test : ℕ → Bool) where
  last_here : (n : ℕ) → test n ≡ true → last_below test (suc n) ≡ n
  unfolding last_below
  last_here n e = rw e

  last_before : (n : ℕ) → test n ≡ false → last_below test (suc n) ≡ last_below test n
  unfolding last_below
  last_before n e = rw e

  not_first : (n : ℕ) → test 0 ≡ true → test n ≡ false → 0 < n
  not_first n z e = elim (ℕ_discrete n 0) [ yes q ↦ absurd (false≢true (sym e ∙ ap test q ∙ z)) | no q ↦ omega arith ]

  -- there is one, where the test of 0 passes
  pub last_below_lem : (n : ℕ) → 0 < n → test 0 ≡ true → last_below test n < n
  last_below_lem zero h z = absurd (not-suc-le-zero h)
  last_below_lem (suc n) h z = go (test n) refl (λ p. last_below_lem n p z)
    where
      go : (b : Bool) → test n ≡ b → (0 < n → last_below test n < n) → last_below test (suc n) < suc n
      go true e v = omega (arith, last_here n e)
      go false e v = omega (arith, last_before n e, v (not_first n z e))

  pub last_passes : (n : ℕ) → 0 < n → test 0 ≡ true → test (last_below test n) ≡ true
  last_passes zero h z = absurd (not-suc-le-zero h)
  last_passes (suc n) h z = go (test n) refl (λ p. last_passes n p z)
    where
      go : (b : Bool) → test n ≡ b → (0 < n → test (last_below test n) ≡ true) → test (last_below test (suc n)) ≡ true
      go true e v = rw (last_here n e) e
      go false e v = rw (last_before n e) (v (not_first n z e))

  -- no later one passes
  pub last_later : (n j : ℕ) → last_below test n < j → j < n → test j ≡ false
  last_later zero j h l = absurd (not-suc-le-zero l)
  last_later (suc n) j h l = go (test n) refl (last_later n j)
    where
      go : (b : Bool) → test n ≡ b → (last_below test n < j → j < n → test j ≡ false) → test j ≡ false
      go true e v = absurd (omega (arith, last_here n e))
      go false e v = elim (ℕ_discrete j n) [ yes q ↦ rw q e | no q ↦ v (omega (arith, last_before n e)) (omega arith) ]

  -- one that passes, and after which none does
  pub last_is : (n e : ℕ) → e < n → test e ≡ true → ((j : ℕ) → e < j → j < n → test j ≡ false) → last_below test n ≡ e
  last_is zero e l t h = absurd (not-suc-le-zero l)
  last_is (suc n) e l t h = elim (ℕ_discrete e n) [
    | yes q ↦ last_here n (ap test (sym q) ∙ t) ∙ sym q
    | no q ↦ last_before n (h n (omega arith) (omega arith)) ∙ last_is n e (omega arith) t (λ j a b. h j a (omega arith))
  ]
