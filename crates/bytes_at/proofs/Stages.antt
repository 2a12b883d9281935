-- Stages one after another. Where the whole refuses nothing no stage does: `search (then_left, then_right)` finds each.
-- Assumes nothing.
use mathlib.Core.Path.{◌≡◌, refl, ap, ◌∙◌}
use mathlib.Core.Bool.{Bool, true, false, cond}
use Prim.Native.Nat.{ℕ, suc}
use native.Mathlib.Decide.{ℕ_discrete}
use native.Mathlib.Omega.{arith}
use lib.Dec.{T, eqb}
use borrow.Author.Tests.{eq-eqb, ne_eqb}
use Rattle.bytes_at.proofs.Tests.{is_true}
use Rattle.bytes_at.specs.declared.Refusal.{Refusal}
use Rattle.bytes_at.specs.Stages.{no_refusal, carries_byte, blaming, ◌▷◌, or_at, OthersCarry0}

-- two stages: the first stops where it refuses
pub stops : (a b : Refusal) → (a.number ≡ 0 → ⊥) → a ▷ b ≡ a
unfolding ◌▷◌
stops a b n = rw (ne_eqb a.number 0 n)

pub goes : (a b : Refusal) → a.number ≡ 0 → a ▷ b ≡ b
unfolding ◌▷◌
goes a b e = rw (eq-eqb a.number 0 e)

pub then_left : (a b : Refusal) → (a ▷ b).number ≡ 0 → a.number ≡ 0
then_left a b h = elim (ℕ_discrete a.number 0) [ yes e ↦ e | no n ↦ rw (stops a b n) at h ]

pub then_right : (a b : Refusal) → (a ▷ b).number ≡ 0 → b.number ≡ 0
then_right a b h = rw (goes a b (then_left a b h)) at h

pub or_passed : (t : Bool) (n at : ℕ) → (or_at t (suc n) at).number ≡ 0 → T t
unfolding or_at
or_passed true n at h = tt
or_passed false n at h = omega arith

pub regroup : (a b c : Refusal) → (a ▷ b) ▷ c ≡ a ▷ (b ▷ c)
regroup a b c = elim (ℕ_discrete a.number 0) [
  | yes e ↦ rw (goes a b e, goes a (b ▷ c) e)
  | no n ↦ rw (stops a b n, stops a (b ▷ c) n) (stops a c n)
]

-- a test that fails, and one that passes
pub no_is : (t : Bool) (n at : ℕ) → t ≡ false → or_at t n at ≡ blaming n at
unfolding or_at
no_is t n at e = rw e

pub yes_is : (t : Bool) (n at : ℕ) → t ≡ true → or_at t n at ≡ no_refusal
unfolding or_at
yes_is t n at e = rw e

-- a stage that passes, by its number
pub passes : (t : Bool) (n at : ℕ) → t ≡ true → (or_at t n at).number ≡ 0
passes t n at e = ap (λ (r : Refusal). r.number) (yes_is t n at e)

-- Where nothing is refused no byte is told either. Of stages it is enough that this holds of the last.
abbrev pub Clear : Refusal → Type 0
Clear r = r.number ≡ 0 → r ≡ no_refusal

pub clear_then : (a b : Refusal) → Clear b → Clear (a ▷ b)
clear_then a b h z = goes a b (then_left a b z) ∙ h (then_right a b z)

pub clear_or : (t : Bool) (n at : ℕ) → Clear (or_at t (suc n) at)
clear_or t n at z = yes_is t (suc n) at (is_true t (or_passed t n at z))

pub clear_blaming : (n at : ℕ) → Clear (blaming n at)
clear_blaming n at z = rw z

-- "Others carry 0": of stages where it holds of each.
pub others_none : OthersCarry0 no_refusal
others_none = record { zero = λ e. refl }

pub others_blaming : (n at : ℕ) → OthersCarry0 (blaming n at)
others_blaming n at = record { zero = λ e. rw e }

pub others_or : (t : Bool) (n at : ℕ) → OthersCarry0 (or_at t n at)
unfolding or_at
others_or true n at = others_none
others_or false n at = others_blaming n at

pub others_then : (a b : Refusal) → OthersCarry0 a → OthersCarry0 b → OthersCarry0 (a ▷ b)
others_then a b h k = elim (ℕ_discrete a.number 0) [ yes e ↦ rw (goes a b e) k | no n ↦ rw (stops a b n) h ]

-- of what carries a refusal, in one of two ways
pub others_either : {A : Type 0} (refusal : A → Refusal) (b : Bool) (x y : A) → OthersCarry0 (refusal x) → OthersCarry0 (refusal y)
    → OthersCarry0 (refusal (cond b x y))
others_either refusal true x y h k = h
others_either refusal false x y h k = k

-- a refusal that blames no field
pub blaming_none : (n : ℕ) → blaming n 0 ≡ record { number = n; byte = 0 }
blaming_none n = ap (λ (x : ℕ). record { number = n; byte = x }) (neither (carries_byte n))
  where
    neither : (b : Bool) → ◌≡◌ {A = ℕ} (cond b 0 0) 0
    neither true = refl
    neither false = refl

-- The number of stages is what it would be without bytes: that of the first stage whose number is not 0.
pub numbers : (a b : Refusal) → (a ▷ b).number ≡ cond (eqb a.number 0) b.number a.number
numbers a b = elim (ℕ_discrete a.number 0) [
  | yes e ↦ rw (goes a b e, eq-eqb a.number 0 e)
  | no n ↦ rw (stops a b n, ne_eqb a.number 0 n)
]
