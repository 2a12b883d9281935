-- RULES.md 7.9 and 9.4, Place in one bucket: the parts that it checks, and what holds of every answer.
use Rattle.std.specs.Prelude.{ℕ, ◌<◌, ◌≡◌, ◌↔◌, List, ◌&&◌, not, ltb, replicate}
use Rattle.bytes_at.specs.declared.Refusal.{Refusal}
use Rattle.bytes_at.specs.Stages.{◌▷◌, or_no}
use Rattle.table_rules.specs.DataType.{is_string}
use Rattle.table_rules.specs.Table.{described_as, binding_in, column_in}
use Rattle.incremental_rules.specs.Place.{place_of, Kept}
use Rattle.incremental_rules.specs.OneBucket.{own_refusal, AcceptedFor}
use Rattle.lookup_rules.specs.declared.Asked.TheVariants.{Position}
use Rattle.lookup_rules.specs.declared.Question.TheVariants.{Check, Place, PlaceInBucket}
use Rattle.lookup_rules.specs.declared.Answer.{Answer}
use Rattle.lookup_rules.specs.Questions.{kind_with, is_incremental, answer_of, room_after}
use Rattle.lookup_rules.specs.Answers.{answer_bits}
use Rattle.lookup_rules.specs.Demand.{in_incremental, SafeThere}

-- the sequence number of the manager that keeps the column at a position
abbrev pub kept_in : List ℕ → ℕ → ℕ
kept_in t position = (binding_in (described_as t) position).sequence

-- table, then 8: for no such column, for a manager that is no IncrementalStMan, and for a String there
abbrev pub asked_there : List ℕ → ℕ → Refusal
asked_there t position =
    let d = described_as t in
    d.refused
    ▷ or_no (ltb position d.column_count) 8
    ▷ or_no (is_incremental (kind_with d.managers d.manager_count (kept_in t position)) && not (is_string (column_in d position).datatype.number)) 8

-- The parts in their order, as stages: those two; then header, length, index object, free chain, bucket numbers and first rows, which the
-- full check has too; row (9); the row's own bucket.
abbrev pub parts_for : List ℕ → List ℕ → ℕ → ℕ → Refusal
parts_for t f row position = own_refusal (described_as t) (kept_in t position) f (asked_there t position) row

-- The same as facts.
pub record PartsRight (t f : List ℕ) (row position : ℕ) : Type 0 where
  pub table : (described_as t).refused.number ≡ 0
  pub incremental : in_incremental t (kept_in t position)
  pub kept : Kept (described_as t) (kept_in t position) position
  pub accepted : AcceptedFor (described_as t) (kept_in t position) f row

abbrev pub answer_in_bucket : List ℕ → List ℕ → ℕ → ℕ → ℕ → Answer
answer_in_bucket t f row position l = answer_of t f (PlaceInBucket row position) l

-- What holds of an answer, with a room of l bytes.
pub record OneBucket (t f : List ℕ) (row position l : ℕ) : Type 0 where
  -- "On an incremental file that the full check accepts its answer equals the full answer for every row and every column kept there",
  -- whatever room each is lent
  pub same : (l' l'' : ℕ) → in_incremental t (kept_in t position) → (answer_of t f (Check (kept_in t position)) l').refused.number ≡ 0
      → answer_in_bucket t f row position l ≡ answer_of t f (Place row (Position position)) l''
  -- "On any other, .. it refuses exactly when one of the parts it checks is faulty"
  pub exactly : ((answer_in_bucket t f row position l).refused.number ≡ 0) ↔ PartsRight t f row position
  -- "with that part's number", and its byte
  pub refused : (answer_in_bucket t f row position l).refused ≡ parts_for t f row position
  -- "else the row's bucket gives the place"
  pub place : (answer_in_bucket t f row position l).refused.number ≡ 0
      → answer_bits (answer_in_bucket t f row position l) ≡ place_of (described_as t) (kept_in t position) f position row
  -- which is never empty, and as safe as in a file that is accepted whole
  pub some : (answer_in_bucket t f row position l).refused.number ≡ 0 → 0 < (answer_in_bucket t f row position l).count
  pub safe : (answer_in_bucket t f row position l).refused.number ≡ 0 → SafeThere t f (answer_bits (answer_in_bucket t f row position l)) row
  -- "The room stays all zero"
  pub room : room_after t f (PlaceInBucket row position) l ≡ replicate l 0

-- Of every table, file, row, position and room.
abbrev pub EveryOneBucket : Type 0
EveryOneBucket = (t f : List ℕ) (row position l : ℕ) → OneBucket t f row position l
