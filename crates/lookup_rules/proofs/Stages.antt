-- What an answer that is not refused shows of each stage.
-- Assumes nothing.
use mathlib.Core.Path.{◌≡◌, refl, sym}
use mathlib.Core.List.{List}
use mathlib.Core.Bool.{cond}
use Prim.Native.Nat.{ℕ}
use native.Mathlib.Decide.{ℕ_discrete}
use lib.ListN.{replicate}
use lib.Dec.{T}
use borrow.Author.Tests.{eq-eqb, ne_eqb}
use Rattle.bytes_at.specs.Steps.{◌>>=◌}
use Rattle.bytes_at.specs.Stages.{no_refusal}
use Rattle.bytes_at.proofs.Stages.{then_left, then_right, or_passed, Clear, clear_then, clear_or}
use Rattle.table_rules.specs.declared.Description.{Description}
use Rattle.table_rules.specs.ColumnDesc.{no_column}
use Rattle.table_rules.specs.Table.{described_as, column_in, binding_in}
use Rattle.standard_rules.specs.Place.{Bits}
use Rattle.standard_rules.specs.Looks.{Looks}
use Rattle.lookup_rules.specs.declared.Request.{Request}
use Rattle.lookup_rules.specs.declared.Target.{Target}
use Rattle.lookup_rules.specs.declared.Staged.{Staged}
use Rattle.lookup_rules.specs.Questions.{sequence_for, is_column, kind_with, is_incremental, is_placed, is_held, is_below, is_seen, target_of, plan_for, stages_after, stages_of, place_in, looks_in, no_plan, no_bits, no_looks, answered, answer_for, room_for}
use Rattle.lookup_rules.specs.Stale.{checked_for}
use Rattle.lookup_rules.proofs.Files.{target_passed}

-- ---- the answer
answered_first : (r : Request) (s : Staged) (b : Bits) (n : Looks) → Clear s.refused → (answered r s b n).refused ≡ s.refused
unfolding answered
answered_first r s b n c =
    elim (ℕ_discrete s.refused.number 0) [
      | yes e ↦ rw (eq-eqb s.refused.number 0 e) (sym (c e))
      | no h ↦ rw (ne_eqb s.refused.number 0 h)
    ]

stages_clear : (t f : List ℕ) (r : Request) (l : ℕ) → Clear (stages_of t f r l).refused
unfolding stages_of stages_after ◌>>=◌
stages_clear t f r l = clear_then _ _ (clear_or _ 13 _)

-- an answer is refused as its stages are
pub answer_refused : (t f : List ℕ) (r : Request) (l : ℕ) → (answer_for t f r l).refused ≡ (stages_of t f r l).refused
unfolding answer_for
answer_refused t f r l = answered_first _ _ _ _ (stages_clear t f r l)

pub answered_is : (r : Request) (s : Staged) (b : Bits) (n : Looks) → s.refused.number ≡ 0
    → answered r s b n
    ≡ record {
      refused = no_refusal;
      size = s.plan.size;
      plan = cond r.column s.plan no_plan;
      column = cond r.column s.column no_column;
      first = (cond r.cell b no_bits).first;
      count = (cond r.cell b no_bits).count;
      looks = (cond r.cell n no_looks).looks;
      entries = (cond r.cell n no_looks).entries;
    }
unfolding answered
answered_is r s b n h = rw (eq-eqb s.refused.number 0 h)

-- ---- the stages of a question
module _ (d : Description) (r : Request) where
  pub target_column : (target_of d r).refused.number ≡ 0 → T (is_column r d.column_count)
  unfolding target_of ◌>>=◌
  target_column h = or_passed _ 7 _ (then_right d.refused _ (then_left _ _ h))

  pub description_passed : (target_of d r).refused.number ≡ 0 → d.refused.number ≡ 0
  unfolding target_of ◌>>=◌
  description_passed h = then_left _ _ (then_left _ _ h)

  pub target_held : (target_of d r).refused.number ≡ 0
      → T (is_held (kind_with d.managers d.manager_count (target_of d r).sequence) (is_placed r (column_in d r.position).datatype.number) r.own)
  unfolding target_of ◌>>=◌
  target_held h = or_passed _ 7 _ (then_right _ _ h)

  pub target_sequence : (target_of d r).sequence ≡ sequence_for r (binding_in d r.position).sequence
  unfolding target_of ◌>>=◌
  target_sequence = refl

  pub target_position : (target_of d r).position ≡ r.position
  unfolding target_of ◌>>=◌
  target_position = refl

  pub target_binding : (target_of d r).binding ≡ binding_in d r.position
  unfolding target_of ◌>>=◌
  target_binding = refl

  pub target_described : (target_of d r).column ≡ column_in d r.position
  unfolding target_of ◌>>=◌
  target_described = refl

  pub target_kind : (target_of d r).incremental ≡ is_incremental (kind_with d.managers d.manager_count (target_of d r).sequence)
  unfolding target_of ◌>>=◌
  target_kind = refl

module _ (t f : List ℕ) (r : Request) (l : ℕ) where
  -- the manager and the column that a question is about
  abbrev pub target_for : Target
  target_for = target_of (described_as t) r

  pub check_of : (stages_of t f r l).refused.number ≡ 0 → (checked_for t f r l).refused.number ≡ 0
  unfolding stages_of stages_after ◌>>=◌
  check_of h = then_left _ _ (then_left _ _ (then_left _ _ h))

  pub row_passed : (stages_of t f r l).refused.number ≡ 0 → T (is_below r (described_as t).rows)
  unfolding stages_of stages_after ◌>>=◌
  row_passed h = or_passed _ 8 _ (then_right _ _ (then_left _ _ h))

  pub seen_passed : (stages_of t f r l).refused.number ≡ 0 → T (is_seen r target_for.incremental (stages_of t f r l).plan.datatype)
  unfolding stages_of stages_after ◌>>=◌
  seen_passed h = or_passed _ 13 _ (then_right _ _ h)

  pub stages_sequence : (stages_of t f r l).sequence ≡ target_for.sequence
  unfolding stages_of stages_after ◌>>=◌
  stages_sequence = refl

  pub stages_kind : (stages_of t f r l).incremental ≡ target_for.incremental
  unfolding stages_of stages_after ◌>>=◌
  stages_kind = refl

  pub stages_big : (stages_of t f r l).big ≡ (described_as t).big
  unfolding stages_of stages_after ◌>>=◌
  stages_big = refl

  pub stages_plan : (stages_of t f r l).plan ≡ plan_for target_for (checked_for t f r l)
  unfolding stages_of stages_after ◌>>=◌
  stages_plan = refl

  pub stages_column : (stages_of t f r l).column ≡ target_for.column
  unfolding stages_of stages_after ◌>>=◌
  stages_column = refl

  pub stages_set : (stages_of t f r l).set ≡ (checked_for t f r l).set
  unfolding stages_of stages_after ◌>>=◌
  stages_set = refl

  pub stages_first : (stages_of t f r l).first ≡ (checked_for t f r l).first
  unfolding stages_of stages_after ◌>>=◌
  stages_first = refl

  -- the cell that a question asks for, and the search for it
  abbrev pub cell_for : Bits
  cell_for = cond r.cell (place_in (described_as t) target_for.incremental target_for.sequence f r.row r.position) no_bits

  abbrev pub looks_for : Looks
  looks_for = cond r.cell (looks_in (described_as t) target_for.incremental target_for.sequence f r.row r.position) no_looks

-- What an answer that is not refused shows.
pub record Passed (t f : List ℕ) (r : Request) (l : ℕ) : Type 0 where
  pub column : T (is_column r (described_as t).column_count)
  pub held : (target_for t f r l).refused.number ≡ 0
  pub checked : (checked_for t f r l).refused.number ≡ 0
  pub row : T (is_below r (described_as t).rows)
  pub same : answer_for t f r l
      ≡ record {
        refused = no_refusal;
        size = (stages_of t f r l).plan.size;
        plan = cond r.column (stages_of t f r l).plan no_plan;
        column = cond r.column (stages_of t f r l).column no_column;
        first = (cell_for t f r l).first;
        count = (cell_for t f r l).count;
        looks = (looks_for t f r l).looks;
        entries = (looks_for t f r l).entries;
      }

pub passed : (t f : List ℕ) (r : Request) (l : ℕ) → (answer_for t f r l).refused.number ≡ 0 → Passed t f r l
unfolding answer_for
passed t f r l h =
    let d = described_as t in
    let z = rw (answer_refused t f r l) at h in
    let c = check_of t f r l z in
    let g = target_passed d (target_for t f r l) f l r.own r.row c in
    record {
      column = target_column d r g;
      held = g;
      checked = c;
      row = row_passed t f r l z;
      same = rw (← (stages_sequence t f r l), ← (stages_kind t f r l)) (answered_is _ _ _ _ z);
    }

-- ---- "It is all zero after every refusal": the room
pub room_zero : (t f : List ℕ) (r : Request) (l : ℕ) → ((answer_for t f r l).refused.number ≡ 0 → ⊥) → room_for t f r l ≡ replicate l 0
unfolding room_for
room_zero t f r l h = rw (ne_eqb (stages_of t f r l).refused.number 0 (λ e. h (rw (answer_refused t f r l) e)))
