-- The first number whose test passes, and the first zero byte: none stands before it, and where it is not the end it is one.
-- Assumes nothing.
use mathlib.Core.Path.{◌≡◌, refl, sym, ap, ◌∙◌}
use mathlib.Core.Bool.{Bool, true, false, false≢true}
use mathlib.Core.List.{List, [], ◌∷◌}
use Prim.Native.Nat.{ℕ, zero, suc, ◌+◌, ◌≤◌, ◌<◌}
use native.Mathlib.Decide.{ℕ_discrete}
use native.Mathlib.Omega.{arith}
use lib.Dec.{eqb}
use lib.ListN.{length, get_or}
use lib.Seq.{length-take-le}
use borrow.Author.Tests.{eq-eqb, ne_eqb}
use Rattle.bytes_at.specs.Lists.{first_from}
use Rattle.bytes_at.specs.Bytes.{first_zero, before_zero}

module _ (test : ℕ → Bool) where
  -- one number more
  here : (k i : ℕ) → test i ≡ true → first_from test (suc k) i ≡ i
  unfolding first_from
  here k i e = rw e

  on : (k i : ℕ) → test i ≡ false → first_from test (suc k) i ≡ first_from test k (suc i)
  unfolding first_from
  on k i e = rw e

  record First (k i n : ℕ) : Type 0 where
    within : n ≤ i + k
    before : (j : ℕ) → i ≤ j → j < n → test j ≡ false
    there : n < i + k → test n ≡ true

  more : (k i : ℕ) → First k (suc i) (first_from test k (suc i)) → (b : Bool) → test i ≡ b → First (suc k) i (first_from test (suc k) i)
  more k i x true e = rw (here k i e) (record { within = omega arith; before = λ j h l. absurd (omega arith); there = λ l. e })
  more k i x false e =
      rw (on k i e) (record {
        within = omega (arith, x.within);
        before = λ j h l. elim (ℕ_discrete j i) [ yes q ↦ ap test q ∙ e | no q ↦ x.before j (omega arith) l ];
        there = λ l. x.there (omega arith);
      })

  first : (k i : ℕ) → First k i (first_from test k i)
  unfolding first_from
  first zero i = record { within = omega arith; before = λ j h l. absurd (omega arith); there = λ l. absurd (omega arith) }
  first (suc k) i = more k i (first k (suc i)) (test i) refl

module _ (s : List ℕ) where
  abbrev is_zero : ℕ → Bool
  is_zero i = eqb (get_or s i 0) 0

  pub zero_within : first_zero s ≤ length s
  unfolding first_zero
  zero_within = omega (arith, (first is_zero (length s) 0).within)

  pub none_before : (i : ℕ) → i < first_zero s → get_or s i 0 ≡ 0 → ⊥
  unfolding first_zero
  none_before i h e = false≢true (sym ((first is_zero (length s) 0).before i (omega arith) h) ∙ eq-eqb _ _ e)

  pub zero_there : first_zero s < length s → get_or s (first_zero s) 0 ≡ 0
  unfolding first_zero
  zero_there h =
      elim (ℕ_discrete (get_or s (first_from is_zero (length s) 0) 0) 0) [
        | yes e ↦ e
        | no e ↦ absurd (false≢true (sym (ne_eqb _ _ e) ∙ (first is_zero (length s) 0).there (omega arith)))
      ]

  pub before_length : length (before_zero s) ≡ first_zero s
  unfolding before_zero
  before_length = length-take-le (first_zero s) s zero_within

-- Computed: padding, none, zeros before and in the middle of a text.
pub texts :
    (before_zero (82 ∷ 65 ∷ 0 ∷ 0 ∷ []) ≡ 82 ∷ 65 ∷ [])
    × (before_zero (82 ∷ 65 ∷ []) ≡ 82 ∷ 65 ∷ [])
    × (before_zero (82 ∷ 0 ∷ 65 ∷ 0 ∷ []) ≡ 82 ∷ [])
    × (before_zero (0 ∷ 82 ∷ []) ≡ [])
unfolding before_zero first_zero first_from
texts = (refl, refl, refl, refl)
