-- RULES.md 9.3: what holds of the looks that Place tells.
use Rattle.std.specs.Prelude.{ℕ, ◌≡◌, List}
use Rattle.standard_rules.specs.Looks.{FewLooks}
use Rattle.lookup_rules.specs.declared.Asked.{Asked}
use Rattle.lookup_rules.specs.declared.Question.TheVariants.{Place}
use Rattle.lookup_rules.specs.declared.Answer.{Answer}
use Rattle.lookup_rules.specs.Questions.{no_looks, answer_of}
use Rattle.lookup_rules.specs.Answers.{answer_looks}
use Rattle.lookup_rules.specs.Demand.{in_incremental, carries}

pub record Looked (t : List ℕ) (asked : Asked) (a : Answer) : Type 0 where
  -- "at most the bit length of the entry count less 1", and 12
  pub few : FewLooks (answer_looks a)
  -- "A refusal, or a place in IncrementalStMan, has count 0"
  pub refused : (a.refused.number ≡ 0 → ⊥) → answer_looks a ≡ no_looks
  pub incremental : (sequence : ℕ) → in_incremental t sequence → carries t asked sequence → answer_looks a ≡ no_looks

-- Of every answer of Place, asked by position or by plan.
abbrev pub EveryLook : Type 0
EveryLook = (t f : List ℕ) (row l : ℕ) (asked : Asked) → Looked t asked (answer_of t f (Place row asked) l)
