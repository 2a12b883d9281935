-- Two plans agree in every field exactly where they are the same plan.
-- Assumes nothing.
use mathlib.Core.Path.{◌≡◌, sym, ◌∙◌}
use mathlib.Core.Bool.{true, false, ◌&&◌}
use Prim.Native.Nat.{ℕ}
use lib.Dec.{T, eqb}
use Rattle.std.proofs.Math.Bool.{and_assoc}
use native.Mathlib.Omega.{arith}
use Rattle.bytes_at.proofs.Tests.{is_false}
use Rattle.std.proofs.lemmas.Bool.Decides.{nat_tests}
use Rattle.bytes_at.specs.Steps.{◌>>=◌}
use Rattle.lookup_rules.specs.declared.Plan.{Plan}
use Rattle.lookup_rules.specs.Questions.{same_plan}

agrees : (a b : Plan) → T (same_plan a b) → a ≡ b
unfolding same_plan ◌>>=◌
agrees a b t = grind (arith, nat_tests)

same_plan_lem : (a : Plan) → same_plan a a ≡ true
unfolding same_plan ◌>>=◌
same_plan_lem a = grind (arith, nat_tests)

-- what the derived `==` computes
pub same_plan_is : (a b : Plan)
    → eqb a.position b.position && (eqb a.sequence b.sequence && (eqb a.datatype b.datatype && (eqb a.elements b.elements && (eqb a.bits b.bits && (eqb a.set b.set && (eqb a.offset b.offset && (eqb a.per b.per && eqb a.size b.size))))))) ≡ same_plan a b
unfolding same_plan ◌>>=◌
same_plan_is a b = simp and_assoc

-- the plan that would be made now, b, against a
pub fresh_same : (a b : Plan) → b ≡ a → same_plan a b ≡ true
fresh_same a b e = rw e (same_plan_lem a)

pub stale_differs : (a b : Plan) → (b ≡ a → ⊥) → same_plan a b ≡ false
stale_differs a b h = is_false (same_plan a b) (λ t. h (sym (agrees a b t)))

pub differs_stale : (a b : Plan) → same_plan a b ≡ false → b ≡ a → ⊥
differs_stale a b f e = let z : true ≡ false = sym (fresh_same a b e) ∙ f in let n : ◌≡◌ {A = ℕ} 0 1 = cc in omega arith
