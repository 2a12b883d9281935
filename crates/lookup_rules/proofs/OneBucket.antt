-- Place in one bucket: what it refuses, and its answer against that of Place.
-- Assumes nothing.
use mathlib.Core.Path.{◌≡◌, refl, sym, ap, ◌∙◌}
use mathlib.Core.List.{List}
use mathlib.Core.Bool.{Bool, true, false, ◌&&◌, false≢true}
use Prim.Native.Nat.{ℕ, ◌≤◌, ◌<◌}
use native.Mathlib.Decide.{ℕ_discrete, dec_lt}
use native.Mathlib.Omega.{arith}
use lib.Dec.{T, ltb, eqb}
use lib.ListN.{replicate}
use borrow.Author.Tests.{eq-eqb, ne_eqb, lt-ltb, le-ltb}
use Rattle.bytes_at.specs.declared.Refusal.{Refusal}
use Rattle.bytes_at.specs.Steps.{◌>>=◌}
use Rattle.bytes_at.specs.Stages.{blaming, ◌▷◌, or_no}
use Rattle.bytes_at.proofs.Stages.{then_left, then_right, or_passed, stops, goes, regroup, no_is, yes_is, passes, Clear, clear_then, clear_or}
use Rattle.table_rules.specs.declared.Kind.{Kind}
use Rattle.table_rules.specs.declared.Kind.TheVariants.{Other, Standard, Incremental}
use Rattle.table_rules.specs.declared.Description.{Description}
use Rattle.table_rules.specs.Table.{described_as, column_in}
use Rattle.standard_rules.specs.Check.{refusal_with, refusal_of as standard_refusal}
use Rattle.standard_rules.specs.Place.{Bits}
use Rattle.standard_rules.specs.Looks.{Looks}
use Rattle.incremental_rules.specs.declared.Found.{Found}
use Rattle.incremental_rules.specs.Header.{header_at}
use Rattle.incremental_rules.specs.Bucket.{cells_of}
use Rattle.incremental_rules.specs.Check.{before_buckets, refusal_of, told, checked_as}
use Rattle.incremental_rules.specs.Place.{place_of}
use Rattle.incremental_rules.specs.OneBucket.{own_refusal, own_checked, refusal_by, checked_by}
use Rattle.incremental_rules.proofs.AnyCell.{own_refused}
use Rattle.incremental_rules.proofs.Exactly.{accepted_exactly}
use Rattle.incremental_rules.proofs.Places.{own_clear, own_below, own_exactly, own_within}
use Rattle.lookup_rules.specs.declared.Asked.TheVariants.{Position}
use Rattle.lookup_rules.specs.declared.Question.TheVariants.{Check, Place, PlaceInBucket}
use Rattle.lookup_rules.specs.declared.Request.{Request}
use Rattle.lookup_rules.specs.declared.Target.{Target}
use Rattle.lookup_rules.specs.declared.Staged.{Staged}
use Rattle.lookup_rules.specs.Questions.{request_of, kind_with, is_incremental, is_placed, is_held, target_of, plan_for, stages_after, stages_of, answered, answer_for, room_for, answer_of}
use Rattle.lookup_rules.specs.Demand.{in_incremental}
use Rattle.lookup_rules.specs.Stale.{checked_for}
use Rattle.lookup_rules.specs.OneBucket.{kept_in, asked_there, parts_for, PartsRight, EveryOneBucket}
use Rattle.lookup_rules.proofs.CellAsked.{Cell}
use Rattle.lookup_rules.proofs.Files.{standard_refused, file_incremental, incremental_refused, checked_clear}
use Rattle.lookup_rules.proofs.Refusals.{unchanged}
use Rattle.lookup_rules.proofs.Stages.{answer_refused, target_sequence, description_passed, stages_sequence, stages_kind, stages_column, passed, room_zero}
use Rattle.lookup_rules.proofs.IncrementalPlaces as incremental
use Rattle.lookup_rules.proofs.Views.{some_bits}

-- ---- 8
held_there : (k : Kind) (placed : Bool) → is_held k placed true ≡ is_incremental k && placed
held_there Other placed = refl
held_there Standard placed = refl
held_there Incremental placed = refl

-- a refusal of what is asked stays, in either check
standard_stays : (d : Description) (sequence : ℕ) (f : List ℕ) (refused : Refusal) (l : ℕ) → (refused.number ≡ 0 → ⊥) → standard_refusal d sequence f refused l ≡ refused
unfolding refusal_with
standard_stays d sequence f refused l h = stops refused _ h

module _ (d : Description) (sequence : ℕ) (f : List ℕ) (refused : Refusal) (h : refused.number ≡ 0 → ⊥) where
  before_stays : before_buckets d.rows d.big f refused ≡ refused
  unfolding before_buckets
  before_stays = stops refused _ h

  own_stays : (row : ℕ) → own_refusal d sequence f refused row ≡ refused
  unfolding own_refusal
  own_stays row = rw before_stays (stops refused _ h)

  whole_stays : refusal_of d sequence f refused ≡ refused
  unfolding refusal_of
  whole_stays = rw before_stays (stops refused _ h)

-- 9, where the parts before the row are right
past_rows : (d : Description) (sequence : ℕ) (f : List ℕ) (refused : Refusal) (row : ℕ) → d.rows ≤ row → (refusal_of d sequence f refused).number ≡ 0
    → own_refusal d sequence f refused row ≡ blaming 9 0
unfolding own_refusal refusal_of
past_rows d sequence f refused row l z =
    goes _ _ (then_left _ _ z)
    ∙ own_refused d.big f _ _ d.rows (cells_of d sequence 0) row
    ∙ rw (no_is (ltb row d.rows) 9 0 (le-ltb row d.rows l)) (stops (blaming 9 0) _ (omega arith))

-- the bucket size, where nothing is refused
told_sized : (why : Refusal) (size : ℕ) (found : Found) → why.number ≡ 0 → (told why size found).size ≡ size
unfolding told
told_sized why size found h = rw (eq-eqb why.number 0 h)

module _ (d : Description) (sequence : ℕ) (f : List ℕ) (refused : Refusal) (position row : ℕ) where
  size_own : (own_refusal d sequence f refused row).number ≡ 0 → (checked_by true d sequence f refused position row).size ≡ (header_at f d.big).size
  unfolding checked_by own_checked
  size_own h = told_sized _ _ _ h

  size_whole : (refusal_of d sequence f refused).number ≡ 0 → (checked_by false d sequence f refused position row).size ≡ (header_at f d.big).size
  unfolding checked_by checked_as
  size_whole h = told_sized _ _ _ h

-- answers to two questions for a cell that are refused alike, of the same plan, column and cell
answered_same : (r r' : Request) → r.column ≡ r'.column → r.cell ≡ r'.cell → (s s' : Staged) (b : Bits) (n : Looks) → s.refused ≡ s'.refused
    → (s.refused.number ≡ 0 → s.plan ≡ s'.plan) → s.column ≡ s'.column → answered r s b n ≡ answered r' s' b n
unfolding answered
answered_same r r' c k s s' b n e p x = elim (ℕ_discrete s.refused.number 0) [
  | yes h ↦ rw (← e, eq-eqb s.refused.number 0 h, c, k, p h, x)
  | no h ↦ rw (← e, ne_eqb s.refused.number 0 h)
]

and_none : (b : Bool) → b && false ≡ false
and_none true = refl
and_none false = refl

-- the stages after the file check's, of a question by position that views nothing
later : (m : Refusal) (below : Bool) → Clear m → ((m ▷ or_no true 12) ▷ or_no below 9) ▷ or_no true 14 ≡ m ▷ or_no below 9
later m below c = unchanged _ 14 (clear_then _ _ (clear_or _ 8 _)) ∙ ap (λ (x : Refusal). x ▷ or_no below 9) (unchanged m 12 c)

-- ---- what is refused
module _ (t f : List ℕ) (row position l : ℕ) where
  abbrev d : Description
  d = described_as t

  abbrev r : Request
  r = request_of (PlaceInBucket row position)

  abbrev g : Target
  g = target_of d r

  asked_is : g.refused ≡ asked_there t position
  unfolding target_of ◌>>=◌
  asked_is = regroup _ _ _ ∙ rw held_there

  abbrev kind : Kind
  kind = kind_with d.managers d.manager_count (kept_in t position)

  kind_is : g.incremental ≡ is_incremental kind
  unfolding target_of ◌>>=◌
  kind_is = refl

  held : g.refused.number ≡ 0 → T (is_held kind (is_placed r (column_in d position).datatype.number) true)
  unfolding target_of ◌>>=◌
  held h = or_passed _ 7 _ (then_right _ _ h)

  other_kind : (k : Kind) (placed : Bool) → is_incremental k ≡ false → T (is_held k placed true) → ⊥
  other_kind Other placed e h = h
  other_kind Standard placed e h = h
  other_kind Incremental placed e h = false≢true (sym e)

  not_there : g.incremental ≡ false → g.refused.number ≡ 0 → ⊥
  not_there e h = other_kind kind _ (sym kind_is ∙ e) (held h)

  below_passed : (m : Refusal) → Clear m → (m.number ≡ 0 → row < d.rows) → m ▷ or_no (ltb row d.rows) 9 ≡ m
  below_passed m c h = elim (ℕ_discrete m.number 0) [
    | yes e ↦ goes m _ e ∙ yes_is (ltb row d.rows) 9 0 (lt-ltb row d.rows (h e)) ∙ sym (c e)
    | no n ↦ stops m _ n
  ]

  stages_are : (stages_of t f r l).refused ≡ (checked_for t f r l).refused ▷ or_no (ltb row d.rows) 9
  unfolding stages_of stages_after ◌>>=◌
  stages_are = later _ _ (checked_clear d g f l true row)

  by_kind : (b : Bool) → g.incremental ≡ b → (stages_of t f r l).refused ≡ own_refusal d (kept_in t position) f g.refused row
  unfolding refusal_by target_of ◌>>=◌
  by_kind true e =
      stages_are
      ∙ ap (λ (m : Refusal). m ▷ or_no (ltb row d.rows) 9) (incremental_refused d g f l e true row)
      ∙ below_passed _ (own_clear d (kept_in t position) f g.refused row) (own_below d (kept_in t position) f g.refused row)
  by_kind false e =
      let n = not_there e in
      stages_are
      ∙ ap (λ (m : Refusal). m ▷ or_no (ltb row d.rows) 9) (standard_refused d g f l e true row ∙ standard_stays d g.sequence f g.refused l n)
      ∙ stops g.refused _ n
      ∙ sym (own_stays d (kept_in t position) f g.refused n row)

  first_faulty : (answer_for t f r l).refused ≡ parts_for t f row position
  first_faulty =
      answer_refused t f r l ∙ by_kind g.incremental refl ∙ ap (λ (x : Refusal). own_refusal d (kept_in t position) f x row) asked_is

  -- ---- exactly when one of the parts is faulty
  asked : Cell r
  asked = record { cell = refl; column = refl }

  there_kind : (k : Kind) (placed : Bool) → T (is_held k placed true) → k ≡ Incremental
  there_kind Other placed h = absurd h
  there_kind Standard placed h = absurd h
  there_kind Incremental placed h = refl

  module _ (h : (answer_for t f r l).refused.number ≡ 0) where
    is_there : in_incremental t (kept_in t position)
    is_there = there_kind kind _ (held (passed t f r l h).held)

    right : PartsRight t f row position
    unfolding target_of ◌>>=◌
    right = record {
      table = description_passed d r (passed t f r l h).held;
      incremental = is_there;
      kept = incremental.kept t f (kept_in t position) l r asked is_there refl h;
      accepted = ((own_exactly d (kept_in t position) f _ row).0 (rw first_faulty at h)).1;
    }

  passes_all : PartsRight t f row position → (answer_for t f r l).refused.number ≡ 0
  passes_all p =
      ap (λ (x : Refusal). x.number) first_faulty
      ∙ (own_exactly d (kept_in t position) f (asked_there t position) row).1 (
        ap (λ (x : Refusal). x.number) (
            goes _ _ p.table
            ∙ goes _ _ (passes _ 8 _ (lt-ltb position d.column_count p.kept.known)))
            ∙ passes _ 8 _ (rw (p.incremental, ne_eqb _ _ p.kept.no_string)),
        p.accepted,
      )

  room_is : room_for t f r l ≡ replicate l 0
  unfolding room_for
  room_is = elim (ℕ_discrete (answer_for t f r l).refused.number 0) [
    | yes h ↦ rw (stages_kind t f r l ∙ kind_is ∙ ap is_incremental (is_there h), and_none (eqb (stages_of t f r l).refused.number 0))
    | no h ↦ room_zero t f r l h
  ]

-- ---- the answer of Place
module _ (t f : List ℕ) (row position l l' : ℕ) (k : in_incremental t (kept_in t position)) where
  abbrev r' : Request
  r' = request_of (Place row (Position position))

  abbrev asks : Request
  asks = r t f row position l

  abbrev described : Description
  described = described_as t

  abbrev kept : ℕ
  kept = kept_in t position

  same_target : target_of described r' ≡ target_of described asks
  unfolding target_of ◌>>=◌
  same_target = rw k

  there : (target_of described asks).incremental ≡ true
  there = kind_is t f row position l ∙ ap is_incremental k

  abbrev before : Refusal
  before = (target_of described asks).refused

  place_stages : (stages_of t f r' l').refused ≡ refusal_of described kept f before ▷ or_no (ltb row described.rows) 9
  unfolding stages_of stages_after refusal_by ◌>>=◌
  place_stages =
      rw same_target
      (later _ _ (checked_clear described (target_of described asks) f l' false row)
      ∙ ap (λ (m : Refusal). m ▷ or_no (ltb row described.rows) 9) (incremental_refused described (target_of described asks) f l' there false row ∙ ap (λ (n : ℕ). refusal_of described n f before) (target_sequence described asks)))

  own_is : (stages_of t f asks l).refused ≡ own_refusal described kept f before row
  own_is = by_kind t f row position l _ refl

  module _ (z : (before.number ≡ 0) → (refusal_of described kept f before).number ≡ 0) where
    by_row : before.number ≡ 0 → own_refusal described kept f before row ≡ refusal_of described kept f before ▷ or_no (ltb row described.rows) 9
    by_row h = elim (dec_lt row described.rows) [
      | yes y ↦
          own_clear described kept f before row (own_within described kept f before row y (z h))
          ∙ sym (goes _ _ (z h) ∙ yes_is _ 9 0 (lt-ltb row described.rows y))
      | no y ↦
          past_rows described kept f before row (omega arith) (z h)
          ∙ sym (goes _ _ (z h) ∙ no_is _ 9 0 (le-ltb row described.rows (omega arith)))
    ]

    same_refused : (stages_of t f asks l).refused ≡ (stages_of t f r' l').refused
    same_refused = own_is ∙ elim (ℕ_discrete before.number 0) [
      | yes h ↦ by_row h
      | no h ↦ own_stays described kept f before h row ∙ sym (rw (whole_stays described kept f before h) (stops before _ h))
    ] ∙ sym place_stages

    -- the plan hangs on the target and on the bucket size
    same_plan_lem : (stages_of t f asks l).refused.number ≡ 0 → (stages_of t f asks l).plan ≡ (stages_of t f r' l').plan
    unfolding stages_of stages_after plan_for ◌>>=◌
    same_plan_lem h =
        let g = target_of described asks in
        let y = rw own_is at h in
        let e : (checked_by true described g.sequence f before g.position row).size ≡ (checked_by false described g.sequence f before g.position row).size =
        size_own described g.sequence f before g.position row (rw (target_sequence described asks) y)
        ∙ sym (size_whole described g.sequence f before g.position row (rw (target_sequence described asks) (z ((own_exactly described kept f before row).0 y).0))) in
        rw (same_target, file_incremental described g f l there true row, file_incremental described g f l' there false row, e)

    same_column : (stages_of t f asks l).column ≡ (stages_of t f r' l').column
    same_column = rw (stages_column t f asks l, stages_column t f r' l', same_target)

    same_answer : answer_for t f asks l ≡ answer_for t f r' l'
    unfolding answer_for
    same_answer =
        rw (stages_kind t f asks l, stages_sequence t f asks l, stages_kind t f r' l', stages_sequence t f r' l', same_target)
        (answered_same asks r' refl refl _ _ _ _ same_refused same_plan_lem same_column)

-- ---- of a file that the full check accepts
module _ (t f : List ℕ) (row position l l' : ℕ) (k : in_incremental t (kept_in t position)) (h : (answer_of t f (Check (kept_in t position)) l').refused.number ≡ 0) where
  abbrev check : Request
  check = request_of (Check (kept_in t position))

  check_there : (target_of (described_as t) check).incremental ≡ true
  unfolding target_of ◌>>=◌
  check_there = ap is_incremental k

  whole : (refusal_of (described_as t) (kept_in t position) f (target_of (described_as t) check).refused).number ≡ 0
  unfolding refusal_by target_of ◌>>=◌
  whole = rw (incremental_refused (described_as t) (target_of (described_as t) check) f l' check_there false 0) at (passed t f check l' h).checked

  -- whatever was refused before it
  accepts : (refused : Refusal) → refused.number ≡ 0 → (refusal_of (described_as t) (kept_in t position) f refused).number ≡ 0
  accepts refused e =
      (accepted_exactly (described_as t) (kept_in t position) f refused).1 (e, ((accepted_exactly (described_as t) (kept_in t position) f _).0 whole).1)

-- Of every answer of Place in one bucket.
pub every_one_bucket : EveryOneBucket
every_one_bucket t f row position l = record {
  same = λ l' l'' k h. same_answer t f row position l l'' k (accepts t f row position l l' k h _);
  exactly = (right t f row position l, passes_all t f row position l);
  refused = first_faulty t f row position l;
  place = λ h.
      incremental.same t f (kept_in t position) l (r t f row position l) (asked t f row position l) (is_there t f row position l h) refl h
      ∙ ap (λ (n : ℕ). place_of (described_as t) n f position row) (target_sequence (described_as t) (r t f row position l));
  some = λ h. some_bits t f l (r t f row position l) (asked t f row position l) h;
  safe = λ h. incremental.safe t f (kept_in t position) l (r t f row position l) (asked t f row position l) (is_there t f row position l h) refl h;
  room = room_is t f row position l;
}
