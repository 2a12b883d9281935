-- What comes out of stages: the file check's refusal, a, then the plan's stage, then the later ones.
-- Assumes nothing.
use mathlib.Core.Path.{◌≡◌, sym, ◌∙◌}
use mathlib.Core.Bool.{Bool, true, false}
use Prim.Native.Nat.{ℕ}
use native.Mathlib.Decide.{ℕ_discrete}
use Rattle.bytes_at.specs.declared.Refusal.{Refusal}
use Rattle.bytes_at.specs.Stages.{blaming, ◌▷◌, or_at, or_no}
use Rattle.bytes_at.proofs.Stages.{stops, goes, Clear}

-- a test that passes
pub unchanged : (a : Refusal) (n : ℕ) → Clear a → a ▷ or_no true n ≡ a
unfolding or_at
unchanged a n c = elim (ℕ_discrete a.number 0) [ yes e ↦ goes a _ e ∙ sym (c e) | no h ↦ stops a _ h ]

pub stale_twelve : (a : Refusal) (same : Bool) (b : Refusal) → a.number ≡ 0 → same ≡ false → (a ▷ or_no same 12) ▷ b ≡ blaming 12 0
unfolding ◌▷◌ or_at
stale_twelve a same b e q = rw (e, q)

pub unmade_stays : (a b c : Refusal) → (a.number ≡ 0 → ⊥) → (a ▷ b) ▷ c ≡ a
unmade_stays a b c n = rw (stops a b n) (stops a c n)
