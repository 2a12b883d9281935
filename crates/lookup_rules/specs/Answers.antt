-- RULES.md 7.7: each answer in the type of its question, and what that says on either side: the refusal, and the
-- values; "A refusal carries its number and zeros", and beside them its byte.
use Rattle.std.specs.Prelude.{ℕ, List, cond, eqb, ◌≡◌, ⊤, Result, Ok, Err}
use Rattle.bytes_at.specs.declared.Refusal.{Refusal}
use Rattle.bytes_at.specs.Stages.{no_refusal, OthersCarry0}
use Rattle.standard_rules.specs.Place.{Bits}
use Rattle.standard_rules.specs.Looks.{Looks}
use Rattle.lookup_rules.specs.declared.Plan.{Plan}
use Rattle.lookup_rules.specs.declared.Question.{Question}
use Rattle.lookup_rules.specs.declared.Answer.{Answer}
use Rattle.lookup_rules.specs.declared.Placed.{Placed}
use Rattle.lookup_rules.specs.declared.PlacedInBucket.{PlacedInBucket}
use Rattle.lookup_rules.specs.Questions.{no_plan, no_bits, no_looks, answer_of}

-- a value, unless there is a refusal
unfoldable pub unless_refused : {A : Type 0} → Refusal → A → Result A Refusal
unless_refused why x = cond (eqb why.number 0) (Ok x) (Err why)

-- the refusal, none beside a value
abbrev pub refusal_in : {A : Type 0} → Result A Refusal → Refusal
refusal_in (Ok x) = no_refusal
refusal_in (Err why) = why

-- what is read of the value, and z beside a refusal
abbrev pub read_in : {A B : Type 0} → (A → B) → B → Result A Refusal → B
read_in f z (Ok x) = f x
read_in f z (Err why) = z

-- File check
abbrev pub verdict_of : Answer → Result ⊤ Refusal
verdict_of a = unless_refused a.refused tt

abbrev pub verdict_refusal : Result ⊤ Refusal → Refusal
verdict_refusal = refusal_in

-- Plan
abbrev pub planned_of : Answer → Result Plan Refusal
planned_of a = unless_refused a.refused a.plan

abbrev pub planned_refusal : Result Plan Refusal → Refusal
planned_refusal = refusal_in

abbrev pub planned_plan : Result Plan Refusal → Plan
planned_plan = read_in (λ (p : Plan). p) no_plan

-- Place: "first bit and bit count, counted from the file's start"; "how many last-row entries the final search looked at", and how
-- many the column's set has
abbrev pub placed_of : Answer → Result Placed Refusal
placed_of a = unless_refused a.refused (record { first = a.first; count = a.count; looks = a.looks; entries = a.entries })

abbrev pub placed_refusal : Result Placed Refusal → Refusal
placed_refusal = refusal_in

abbrev pub bits_of : Placed → Bits
bits_of p = record { first = p.first; count = p.count }

abbrev pub placed_bits : Result Placed Refusal → Bits
placed_bits = read_in bits_of no_bits

abbrev pub placed_looks : Result Placed Refusal → Looks
placed_looks = read_in (λ (p : Placed). record { looks = p.looks; entries = p.entries }) no_looks

-- Place in one bucket: "the row's bucket gives the place"
abbrev pub placed_in_bucket_of : Answer → Result PlacedInBucket Refusal
placed_in_bucket_of a = unless_refused a.refused (record { first = a.first; count = a.count; size = a.size })

abbrev pub in_bucket_refusal : Result PlacedInBucket Refusal → Refusal
in_bucket_refusal = refusal_in

abbrev pub in_bucket_bits : Result PlacedInBucket Refusal → Bits
in_bucket_bits = read_in (λ (p : PlacedInBucket). record { first = p.first; count = p.count }) no_bits

abbrev pub in_bucket_size : Result PlacedInBucket Refusal → ℕ
in_bucket_size = read_in (λ (p : PlacedInBucket). p.size) 0

-- the bits, and the looks, of an answer
abbrev pub answer_bits : Answer → Bits
answer_bits a = record { first = a.first; count = a.count }

abbrev pub answer_looks : Answer → Looks
answer_looks a = record { looks = a.looks; entries = a.entries }

-- What either side says is what the answer says, of every question.
pub record Says (a : Answer) : Type 0 where
  pub verdict : verdict_refusal (verdict_of a) ≡ a.refused
  pub planned : planned_refusal (planned_of a) ≡ a.refused
  pub plan : planned_plan (planned_of a) ≡ a.plan
  pub placed : placed_refusal (placed_of a) ≡ a.refused
  pub bits : placed_bits (placed_of a) ≡ answer_bits a
  pub looks : placed_looks (placed_of a) ≡ answer_looks a
  pub in_bucket : in_bucket_refusal (placed_in_bucket_of a) ≡ a.refused
  pub in_bucket_bits : in_bucket_bits (placed_in_bucket_of a) ≡ answer_bits a
  pub in_bucket_size : in_bucket_size (placed_in_bucket_of a) ≡ a.size

abbrev pub EveryAnswer : Type 0
EveryAnswer = (t f : List ℕ) (q : Question) (l : ℕ) → Says (answer_of t f q l)

-- "Others carry 0": of every answer.
abbrev pub EveryByte : Type 0
EveryByte = (t f : List ℕ) (q : Question) (l : ℕ) → OthersCarry0 (answer_of t f q l).refused
