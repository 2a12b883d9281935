-- RULES.md 7.5 and 9.3, refusal 12, "stale plan": when a prepared plan is refused, and what it gives where it is not.
use Rattle.std.specs.Prelude.{ℕ, ◌≡◌, List, false, replicate}
use Rattle.table_rules.specs.Table.{described_as}
use Rattle.lookup_rules.specs.declared.Plan.{Plan}
use Rattle.lookup_rules.specs.declared.Asked.TheVariants.{Position, Planned}
use Rattle.lookup_rules.specs.declared.Question.TheVariants.{Prepare, Place, View}
use Rattle.lookup_rules.specs.declared.Request.{Request}
use Rattle.lookup_rules.specs.declared.FileChecked.{FileChecked}
use Rattle.lookup_rules.specs.declared.Answer.{Answer}
use Rattle.lookup_rules.specs.Questions.{request_of, target_of, file_of, plan_for, is_fresh, answer_for, room_for, answer_of}

-- the plan of a plan's column, asked for now
abbrev pub prepared_now : List ℕ → List ℕ → Plan → ℕ → Answer
prepared_now t f p l = answer_of t f (Prepare p.position) l

-- a plan can be made now, and is not p
pub record Stale (t f : List ℕ) (p : Plan) (l : ℕ) : Type 0 where
  pub made : (prepared_now t f p l).refused.number ≡ 0
  pub differs : (prepared_now t f p l).plan ≡ p → ⊥

-- what the stages before the plan's give, and the plan that would be made now
abbrev pub checked_for : List ℕ → List ℕ → Request → ℕ → FileChecked
checked_for t f r l = file_of (described_as t) (target_of (described_as t) r) f r.own r.row l

abbrev pub plan_of_now : List ℕ → List ℕ → Request → ℕ → Plan
plan_of_now t f r l = plan_for (target_of (described_as t) r) (checked_for t f r l)

-- It is the plan's stage that refuses: those before it refuse nothing, and the plan is not the one that would be made now.
pub record RefusedAsStale (t f : List ℕ) (r : Request) (l : ℕ) : Type 0 where
  pub earlier : (checked_for t f r l).refused.number ≡ 0
  pub stale : is_fresh r (plan_of_now t f r l) ≡ false

-- What is answered to a request by the plan p, against the same request by the plan's position, and how the room is left.
pub record ByPlan (t f : List ℕ) (by_plan by_position : Request) (p : Plan) (l : ℕ) : Type 0 where
  -- refused as stale exactly where a plan can be made now and is another one
  pub refused : Stale t f p l → RefusedAsStale t f by_plan l
  pub only : RefusedAsStale t f by_plan l → Stale t f p l
  -- with 12, and the room all zero
  pub number : Stale t f p l → (answer_for t f by_plan l).refused ≡ record { number = 12; byte = 0 }
  pub room : Stale t f p l → room_for t f by_plan l ≡ replicate l 0
  -- where the plan is the one that would be made now: what is answered for its position, and that room
  pub fresh : (prepared_now t f p l).refused.number ≡ 0 → (prepared_now t f p l).plan ≡ p → answer_for t f by_plan l ≡ answer_for t f by_position l
  pub fresh_room : (prepared_now t f p l).refused.number ≡ 0 → (prepared_now t f p l).plan ≡ p → room_for t f by_plan l ≡ room_for t f by_position l
  -- where no plan can be made now: that refusal, and the room all zero
  pub unmade : ((prepared_now t f p l).refused.number ≡ 0 → ⊥) → (answer_for t f by_plan l).refused ≡ (prepared_now t f p l).refused
  pub unmade_room : ((prepared_now t f p l).refused.number ≡ 0 → ⊥) → room_for t f by_plan l ≡ replicate l 0

-- Of Place and of View, for every table, file, row, plan and room.
abbrev pub EveryPlan : Type 0
EveryPlan =
    (t f : List ℕ) (row : ℕ) (p : Plan) (l : ℕ)
    → ByPlan t f (request_of (Place row (Planned p))) (request_of (Place row (Position p.position))) p l
    × ByPlan t f (request_of (View row (Planned p))) (request_of (View row (Position p.position))) p l
