-- A view begins at the byte of its answer's first bit: the file has all the bytes before it.
-- Assumes nothing.
use mathlib.Core.Path.{◌≡◌, ap, ◌∙◌}
use mathlib.Core.List.{List}
use Prim.Native.Nat.{ℕ, ◌+◌, ◌/◌, ◌≤◌}
use native.Mathlib.Decide.{ℕ_discrete}
use native.Mathlib.Omega.{arith}
use lib.ListN.{length, take}
use lib.Seq.{length-take-le}
use Rattle.standard_rules.specs.Place.{Bits}
use Rattle.lookup_rules.specs.declared.Question.TheVariants.{View}
use Rattle.lookup_rules.specs.declared.Asked.{Asked}
use Rattle.lookup_rules.specs.declared.Answer.{Answer}
use Rattle.lookup_rules.specs.Questions.{answer_of}
use Rattle.lookup_rules.proofs.Said.{refused_bits}
use Rattle.lookup_rules.proofs.Views.{every_view}

-- of every view, refused or not
pub within : (t f : List ℕ) (l row : ℕ) (a : Asked) → (answer_of t f (View row a) l).first / 8 ≤ length f
within t f l row a = elim (ℕ_discrete (answer_of t f (View row a) l).refused.number 0) [
  | yes e ↦ omega (arith, (every_view t f l row a e).there)
  | no h ↦ omega (arith, ap (λ (b : Bits). b.first) (refused_bits t f (View row a) l h))
]

-- where a part begins of an answer that is one of View
pub begins : (p : ℕ × ℕ) (t f : List ℕ) (l row : ℕ) (a : Asked) {r : ℕ × ℕ} {x : Answer} → x ≡ answer_of t f (View row a) l
    → ◌≡◌ {A = ℕ × ℕ} r (p.0, p.1 + length (take (x.first / 8) f)) → ◌≡◌ {A = ℕ × ℕ} r (p.0, p.1 + (answer_of t f (View row a) l).first / 8)
begins p t f l row a e h =
    h ∙ ap (λ (y : Answer). (p.0, p.1 + length (take (y.first / 8) f))) e
    ∙ ap (λ (k : ℕ). (p.0, p.1 + k)) (length-take-le _ f (within t f l row a))
