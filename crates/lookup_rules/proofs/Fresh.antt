-- Place and View by a plan, against the plan that would be made now.
-- Assumes nothing.
use mathlib.Core.Path.{◌≡◌, refl, sym, ap, ◌∙◌}
use mathlib.Core.List.{List}
use mathlib.Core.Bool.{Bool, true, false}
use Prim.Native.Nat.{ℕ}
use native.Mathlib.Omega.{arith}
use Rattle.bytes_at.specs.Steps.{◌>>=◌}
use Rattle.bytes_at.specs.Stages.{blaming, ◌▷◌, or_no}
use Rattle.bytes_at.specs.declared.Refusal.{Refusal}
use Rattle.bytes_at.proofs.Stages.{regroup, clear_then, clear_or}
use Rattle.table_rules.specs.Table.{described_as}
use Rattle.lookup_rules.specs.declared.Plan.{Plan}
use Rattle.lookup_rules.specs.declared.Request.{Request}
use Rattle.lookup_rules.specs.declared.Asked.TheVariants.{Position, Planned}
use Rattle.lookup_rules.specs.declared.Question.TheVariants.{Prepare}
use Rattle.lookup_rules.specs.declared.Answer.{Answer}
use Rattle.lookup_rules.specs.Questions.{cell_of, request_of, target_of, same_plan, is_below, is_seen, stages_after, stages_of, answered, answer_for, room_for}
use Rattle.lookup_rules.specs.Stale.{prepared_now, Stale, checked_for, plan_of_now, ByPlan, EveryPlan}
use Rattle.lookup_rules.proofs.Files.{checked_clear, row_refused, row_plan}
use Rattle.lookup_rules.proofs.Stages.{answer_refused, answered_is, room_zero}
use Rattle.lookup_rules.proofs.Plans.{fresh_same, stale_differs, differs_stale}
use Rattle.lookup_rules.proofs.Refusals.{unchanged, stale_twelve, unmade_stays}

-- ---- the plan of a position, asked for now
module _ (t f : List ℕ) (c l : ℕ) where
  abbrev prepared : Request
  prepared = request_of (Prepare c)

  prepare_plan : (stages_of t f prepared l).plan ≡ plan_of_now t f prepared l
  unfolding stages_of stages_after ◌>>=◌
  prepare_plan = refl

  prepare_refused : (stages_of t f prepared l).refused ≡ (checked_for t f prepared l).refused
  unfolding stages_of stages_after ◌>>=◌
  prepare_refused =
      unchanged _ 14 (clear_then _ _ (clear_or true 8 _)) ∙ unchanged _ 9 (clear_then _ _ (clear_or true 11 _)) ∙ unchanged _ 12 (checked_clear (described_as t) _ f l false 0)

module _ (t f : List ℕ) (p : Plan) (l : ℕ) where
  -- the request for it
  abbrev now : Request
  now = prepared t f p.position l

  made_check : (prepared_now t f p l).refused ≡ (checked_for t f now l).refused
  made_check = answer_refused t f now l ∙ prepare_refused t f p.position l

  made_plan : (prepared_now t f p l).refused.number ≡ 0 → (prepared_now t f p l).plan ≡ plan_of_now t f now l
  unfolding answer_for
  made_plan h =
      ap (λ (a : Answer). a.plan) (answered_is now (stages_of t f now l) _ _ (rw (answer_refused t f now l) at h))
      ∙ prepare_plan t f p.position l

-- ---- a cell by the plan, or by the plan's position; of its view where v is true
module _ (t f : List ℕ) (v : Bool) (row : ℕ) (p : Plan) (l : ℕ) where
  abbrev by_plan : Request
  by_plan = cell_of row (Planned p) v

  abbrev by_position : Request
  by_position = cell_of row (Position p.position) v

  abbrev made : Plan
  made = plan_of_now t f (now t f p l) l

  -- the row changes neither what the file's check refuses nor the plan
  same_refusal : (checked_for t f by_plan l).refused ≡ (checked_for t f (now t f p l) l).refused
  unfolding target_of ◌>>=◌
  same_refusal = row_refused (described_as t) _ f l row 0

  same_made : plan_of_now t f by_plan l ≡ made
  unfolding target_of ◌>>=◌
  same_made = row_plan (described_as t) _ f l row 0

  -- the stages after the plan's
  abbrev later : Refusal
  later = or_no (is_below by_plan (described_as t).rows) 9 ▷ or_no (is_seen by_plan (target_of (described_as t) by_plan).incremental (plan_of_now t f by_plan l).datatype) 14

  planned_stages : (stages_of t f by_plan l).refused ≡ ((checked_for t f by_plan l).refused ▷ or_no (same_plan p (plan_of_now t f by_plan l)) 12) ▷ later
  unfolding stages_of stages_after ◌>>=◌
  planned_stages = regroup _ _ _

  planned_refused : (answer_for t f by_plan l).refused ≡ ((prepared_now t f p l).refused ▷ or_no (same_plan p made) 12) ▷ later
  planned_refused =
      answer_refused t f by_plan l
      ∙ planned_stages
      ∙ ap (λ (n : Refusal). (n ▷ or_no (same_plan p (plan_of_now t f by_plan l)) 12) ▷ later) (same_refusal ∙ sym (made_check t f p l))
      ∙ ap (λ (x : Plan). ((prepared_now t f p l).refused ▷ or_no (same_plan p x) 12) ▷ later) same_made

  same_stages : same_plan p (plan_of_now t f by_plan l) ≡ true → stages_of t f by_plan l ≡ stages_of t f by_position l
  unfolding stages_of stages_after target_of ◌>>=◌
  same_stages h = rw h

  module _ (s : same_plan p made ≡ true) where
    same : stages_of t f by_plan l ≡ stages_of t f by_position l
    same = same_stages (ap (same_plan p) same_made ∙ s)

    same_answer : answer_for t f by_plan l ≡ answer_for t f by_position l
    unfolding answer_for answered
    same_answer = rw same

    same_room : room_for t f by_plan l ≡ room_for t f by_position l
    unfolding room_for
    same_room = rw same

  stale_refused : Stale t f p l → (answer_for t f by_plan l).refused ≡ blaming 12 0
  stale_refused s =
      planned_refused
      ∙ stale_twelve (prepared_now t f p l).refused (same_plan p made) later s.made
      (stale_differs p made (rw (made_plan t f p l s.made) at s.differs))

  by_plan_lem : ByPlan t f by_plan by_position p l
  by_plan_lem =
      record {
        refused = λ s. record {
          earlier = ap (λ (n : Refusal). n.number) (same_refusal ∙ sym (made_check t f p l)) ∙ s.made;
          stale = ap (same_plan p) same_made ∙ stale_differs p made (rw (made_plan t f p l s.made) at s.differs);
        };
        only = λ s.
            let z = ap (λ (n : Refusal). n.number) (made_check t f p l ∙ sym same_refusal) ∙ s.earlier in
            record { made = z; differs = rw (made_plan t f p l z) (differs_stale p made (ap (same_plan p) (sym same_made) ∙ s.stale)) };
        number = stale_refused;
        room = λ s. room_zero t f by_plan l (λ e. let z : ◌≡◌ {A = ℕ} 12 0 = ap (λ (n : Refusal). n.number) (sym (stale_refused s)) ∙ e in omega arith);
        fresh = λ z e. same_answer (fresh_same p made (sym (made_plan t f p l z) ∙ e));
        fresh_room = λ z e. same_room (fresh_same p made (sym (made_plan t f p l z) ∙ e));
        unmade = λ n. planned_refused ∙ unmade_stays _ _ _ n;
        unmade_room = λ n. room_zero t f by_plan l (λ e. n (ap (λ (x : Refusal). x.number) (sym (planned_refused ∙ unmade_stays _ _ _ n)) ∙ e));
      }

-- Place and View by a plan are refused as stale, with 12, exactly where a plan can be made now and is another one; they answer what they
-- answer for the position where it is the same one; and the refusal of the plan where none can be made.
pub every_plan : EveryPlan
every_plan t f row p l = (by_plan_lem t f false row p l, by_plan_lem t f true row p l)
