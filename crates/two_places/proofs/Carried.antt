-- Demand 3, carried from the definitions to what the functions answer.
-- Assumes nothing.
use mathlib.Core.Path.{◌≡◌, sym, ap, ◌∙◌}
use mathlib.Core.List.{List}
use Prim.Native.Nat.{ℕ}
use Rattle.std.specs.Prelude.{Result, Ok}
use Rattle.bytes_at.specs.declared.Refusal.{Refusal}
use native.Mathlib.Decide.{ℕ_discrete}
use borrow.Author.Tests.{eq-eqb, ne_eqb}
use Rattle.lookup_rules.specs.declared.Asked.{Asked}
use Rattle.lookup_rules.specs.declared.Answer.{Answer}
use Rattle.lookup_rules.specs.declared.Placed.{Placed}
use Rattle.lookup_rules.specs.Questions.{answer_of}
use Rattle.lookup_rules.specs.Answers.{unless_refused, placed_bits, placed_of, answer_bits, bits_of}
use Rattle.lookup_rules.specs.declared.Question.TheVariants.{Place}
use Rattle.lookup_rules.proofs.Places.{places}
use Rattle.lookup_rules.proofs.IncrementalPlaces.{places_there}
use Rattle.two_places.specs.Demand.{Demanded, PlacedThere}

-- an answer that is a place
module _ (a : Answer) (x : Placed) (h : placed_of a ≡ Ok x) where
  unrefused : a.refused.number ≡ 0
  unfolding unless_refused
  unrefused = elim (ℕ_discrete a.refused.number 0) [
    | yes e ↦ e
    | no n ↦ let k = rw (ne_eqb a.refused.number 0 n) at h in cc
  ]

  same_bits : answer_bits a ≡ bits_of x
  unfolding unless_refused
  same_bits = let k = rw (eq-eqb a.refused.number 0 unrefused) at h in ap placed_bits k

pub carried : (t f : List ℕ) (l l' row row' : ℕ) (a a' : Asked) {p p' : Result Placed Refusal}
    → p ≡ placed_of (answer_of t f (Place row a) l)
    → p' ≡ placed_of (answer_of t f (Place row' a') l')
    → Demanded t f row a p row' a' p'
carried t f l l' row row' a a' e e' =
    let one = answer_of t f (Place row a) l in
    let other = answer_of t f (Place row' a') l' in record {
      holds = λ sequence x x' i k k' h h'.
          rw (← (same_bits one x (sym e ∙ h)), ← (same_bits other x' (sym e' ∙ h')))
          (places t f sequence l l' row row' a a' i k k' (unrefused one x (sym e ∙ h)) (unrefused other x' (sym e' ∙ h')));
    }

-- and the same of one place in IncrementalStMan
pub carried_there : (t f : List ℕ) (l row : ℕ) (a : Asked) {p : Result Placed Refusal} → p ≡ placed_of (answer_of t f (Place row a) l) → PlacedThere t f row a p
carried_there t f l row a e =
    let one = answer_of t f (Place row a) l in record {
      safe = λ sequence x i k h.
          rw (← (same_bits one x (sym e ∙ h))) (places_there t f sequence l row a i k (unrefused one x (sym e ∙ h)));
    }
