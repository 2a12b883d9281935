-- What either side of an answer says is what the answer says. Assumes nothing.
use mathlib.Core.Path.{◌≡◌, refl, sym}
use mathlib.Core.List.{List}
use Prim.Native.Nat.{ℕ}
use native.Mathlib.Decide.{ℕ_discrete}
use borrow.Author.Tests.{eq-eqb, ne_eqb}
use Rattle.bytes_at.specs.declared.Refusal.{Refusal}
use Rattle.bytes_at.proofs.Stages.{Clear}
use Rattle.standard_rules.specs.Place.{Bits}
use Rattle.standard_rules.specs.Looks.{Looks}
use Rattle.lookup_rules.specs.declared.Request.{Request}
use Rattle.lookup_rules.specs.declared.Staged.{Staged}
use Rattle.lookup_rules.specs.declared.Question.{Question}
use Rattle.lookup_rules.specs.declared.Answer.{Answer}
use Rattle.lookup_rules.specs.Questions.{no_plan, no_bits, no_looks, answered, answer_for, answer_of}
use Rattle.lookup_rules.specs.Answers.{unless_refused, refusal_in, read_in, answer_bits, answer_looks, Says, EveryAnswer}

-- "A refusal carries its number and zeros", and beside them its byte; where nothing is refused there is none.
record Zeros (a : Answer) : Type 0 where
  clear : Clear a.refused
  no_plan_lem : (a.refused.number ≡ 0 → ⊥) → no_plan ≡ a.plan
  no_bits_lem : (a.refused.number ≡ 0 → ⊥) → no_bits ≡ answer_bits a
  no_looks_lem : (a.refused.number ≡ 0 → ⊥) → no_looks ≡ answer_looks a
  no_size : (a.refused.number ≡ 0 → ⊥) → 0 ≡ a.size

-- where nothing is refused, and where something is
refusal_said : {A : Type 0} (why : Refusal) (x : A) → Clear why → refusal_in (unless_refused why x) ≡ why
unfolding unless_refused
refusal_said why x clear = elim (ℕ_discrete why.number 0) [
  | yes e ↦ rw (eq-eqb why.number 0 e) (sym (clear e))
  | no n ↦ rw (ne_eqb why.number 0 n)
]

value_said : {A B : Type 0} (why : Refusal) (x : A) (f : A → B) (z : B) → ((why.number ≡ 0 → ⊥) → z ≡ f x) → read_in f z (unless_refused why x) ≡ f x
unfolding unless_refused
value_said why x f z zero = elim (ℕ_discrete why.number 0) [
  | yes e ↦ rw (eq-eqb why.number 0 e)
  | no n ↦ rw (ne_eqb why.number 0 n) (zero n)
]

answered_number : (r : Request) (s : Staged) (b : Bits) (n : Looks) → ((answered r s b n).refused.number ≡ 0 → ⊥) → s.refused.number ≡ 0 → ⊥
unfolding answered
answered_number r s b n h e = h (rw (eq-eqb s.refused.number 0 e))

zeros : (r : Request) (s : Staged) (b : Bits) (n : Looks) → Zeros (answered r s b n)
unfolding answered
zeros r s b n = record {
  clear = elim (ℕ_discrete s.refused.number 0) [
    | yes e ↦ rw (eq-eqb s.refused.number 0 e) (λ z. refl)
    | no h ↦ rw (ne_eqb s.refused.number 0 h) (λ z. absurd (h z))
  ];
  no_plan_lem = λ h. rw (ne_eqb s.refused.number 0 (answered_number r s b n h));
  no_bits_lem = λ h. rw (ne_eqb s.refused.number 0 (answered_number r s b n h));
  no_looks_lem = λ h. rw (ne_eqb s.refused.number 0 (answered_number r s b n h));
  no_size = λ h. rw (ne_eqb s.refused.number 0 (answered_number r s b n h));
}

said : (a : Answer) → Zeros a → Says a
said a z = record {
  verdict = refusal_said _ _ z.clear;
  planned = refusal_said _ _ z.clear;
  plan = value_said _ _ _ _ z.no_plan_lem;
  placed = refusal_said _ _ z.clear;
  bits = value_said _ _ _ _ z.no_bits_lem;
  looks = value_said _ _ _ _ z.no_looks_lem;
  in_bucket = refusal_said _ _ z.clear;
  in_bucket_bits = value_said _ _ _ _ z.no_bits_lem;
  in_bucket_size = value_said _ _ _ _ z.no_size;
}

pub refused_looks : (t f : List ℕ) (q : Question) (l : ℕ) → ((answer_of t f q l).refused.number ≡ 0 → ⊥) → answer_looks (answer_of t f q l) ≡ no_looks
unfolding answer_for
refused_looks t f q l h = sym ((zeros _ _ _ _).no_looks_lem h)

pub refused_bits : (t f : List ℕ) (q : Question) (l : ℕ) → ((answer_of t f q l).refused.number ≡ 0 → ⊥) → answer_bits (answer_of t f q l) ≡ no_bits
unfolding answer_for
refused_bits t f q l h = sym ((zeros _ _ _ _).no_bits_lem h)

pub says_of : (t f : List ℕ) (r : Request) (l : ℕ) {a : Answer} → a ≡ answer_for t f r l → Says a
unfolding answer_for
says_of t f r l e = rw e (said _ (zeros _ _ _ _))

pub every_answer : EveryAnswer
every_answer t f q l = says_of _ _ _ _ refl
