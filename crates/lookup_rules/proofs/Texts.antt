-- A view is the text of its cell where the column is padded, else the whole cell; an empty one that is not refused is an empty text.
-- Assumes nothing.
use mathlib.Core.Path.{◌≡◌, refl, sym, ap, ◌∙◌}
use mathlib.Core.List.{List, []}
use mathlib.Core.Bool.{Bool, true, false, ◌&&◌, not, cond}
use Prim.Native.Nat.{ℕ, ◌+◌, ◌*◌, ◌/◌, ◌≤◌, ◌<◌}
use native.Mathlib.Decide.{ℕ_discrete, dec_le}
use native.Mathlib.Omega.{arith}
use lib.Dec.{T, ltb}
use lib.ListN.{length, get_or, take, drop}
use lib.Seq.{length-take-le, get_or-take, take-take}
use store.Enc.{and_l}
use Rattle.bytes_at.specs.declared.Refusal.{Refusal}
use Rattle.bytes_at.specs.Bytes.{first_zero, before_zero}
use Rattle.bytes_at.proofs.Parts.{held_part, part_length, part_at}
use Rattle.bytes_at.proofs.Tests.{is_true, is_false}
use Rattle.bytes_at.proofs.Zeros.{zero_within, none_before, zero_there, before_length}
use Rattle.table_rules.specs.declared.Kind.{Kind}
use Rattle.table_rules.specs.declared.Kind.TheVariants.{Other, Standard, Incremental}
use Rattle.table_rules.specs.DataType.{is_string}
use Rattle.table_rules.specs.ColumnDesc.{is_padded}
use Rattle.table_rules.specs.Table.{described_as, column_in, binding_in}
use Rattle.standard_rules.specs.Place.{Bits}
use Rattle.lookup_rules.specs.declared.Request.{Request}
use Rattle.lookup_rules.specs.declared.Asked.{Asked}
use Rattle.lookup_rules.specs.declared.Question.TheVariants.{Place, View}
use Rattle.lookup_rules.specs.declared.Answer.{Answer}
use Rattle.lookup_rules.specs.Questions.{request_of, column_of, kind_with, is_placed, answer_of}
use Rattle.lookup_rules.specs.Views.{padded_of, view_of, HoldsCell, NoZero, LongestText, EmptyText, Shows, Viewed, EveryViewed}
use Rattle.lookup_rules.proofs.Said.{refused_bits}
use Rattle.lookup_rules.proofs.Stages.{target_sequence, target_described, target_held, stages_column, passed}
use Rattle.lookup_rules.proofs.Views.{every_view, views_place, every_place_has_bits}

-- ---- of a list
before_is : (s : List ℕ) → before_zero s ≡ take (first_zero s) s
unfolding before_zero
before_is s = refl

module _ (s : List ℕ) where
  text_begins : before_zero s ≡ take (length (before_zero s)) s
  text_begins = before_is s ∙ ap (λ (n : ℕ). take n s) (sym (before_length s))

  text_no_zero : NoZero (before_zero s)
  text_no_zero i h e =
      let l = rw (before_length s) at h in
      none_before s i l (sym (get_or-take (first_zero s) s i 0 l) ∙ ap (λ (x : List ℕ). get_or x i 0) (sym (before_is s)) ∙ e)

  text_longest : (n : ℕ) → n ≤ length s → NoZero (take n s) → n ≤ length (before_zero s)
  text_longest n h z = rw (before_length s) (elim (dec_le n (first_zero s)) [
    | yes y ↦ y
    | no y ↦
        let l : first_zero s < n = omega arith in
        absurd (z (first_zero s) (rw (length-take-le n s h) l) (get_or-take n s (first_zero s) 0 l ∙ zero_there s (omega arith)))
  ])

  longest_text : LongestText (before_zero s) s
  longest_text = record { begins = text_begins; no_zero = text_no_zero; longest = text_longest }

  -- empty exactly where a list that is not begins with a zero byte
  none_first : 0 < length s → before_zero s ≡ [] → get_or s 0 0 ≡ 0
  none_first h e =
      let z : first_zero s ≡ 0 = sym (before_length s) ∙ ap length e in
      ap (λ (n : ℕ). get_or s n 0) (sym z) ∙ zero_there s (omega (arith, z))

  first_none : get_or s 0 0 ≡ 0 → before_zero s ≡ []
  first_none e = before_is s ∙ elim (ℕ_discrete (first_zero s) 0) [
    | yes z ↦ ap (λ (n : ℕ). take n s) z
    | no z ↦ absurd (none_before s 0 (omega arith) e)
  ]

  -- a beginning of a part is a part
  text_part : (d : List ℕ) (n : ℕ) → s ≡ take n d → length s ≤ n → before_zero s ≡ take (length (before_zero s)) d
  text_part d n e h =
      text_begins ∙ ap (take (length (before_zero s))) e ∙ take-take (length (before_zero s)) n d (omega (arith, before_length s, zero_within s))

-- ---- of an answer
no_text : (b : Bool) → cond b (before_zero []) [] ≡ []
no_text true = first_none [] refl
no_text false = refl

module _ (f : List ℕ) (x : Answer) where
  padded_is : padded_of f x ≡ take (x.count / 8) (drop (x.first / 8) f)
  unfolding padded_of
  padded_is = refl

  view_text : T (is_padded x.column) → view_of f x ≡ before_zero (padded_of f x)
  unfolding view_of
  view_text h = rw (is_true (is_padded x.column) h)

  view_whole : (T (is_padded x.column) → ⊥) → view_of f x ≡ padded_of f x
  unfolding view_of
  view_whole h = rw (is_false (is_padded x.column) h)

  no_part : x.count ≡ 0 → view_of f x ≡ []
  unfolding view_of padded_of
  no_part e = rw e (no_text (is_padded x.column))

-- ---- of a view that is not refused
module _ (t f : List ℕ) (l row : ℕ) (a : Asked) (h : (answer_of t f (View row a) l).refused.number ≡ 0) where
  abbrev r : Request
  r = request_of (View row a)

  abbrev x : Answer
  x = answer_of t f (View row a) l

  column_is : x.column ≡ column_in (described_as t) (column_of a)
  column_is = ap (λ (y : Answer). y.column) (passed t f r l h).same ∙ stages_column t f r l ∙ target_described (described_as t) r

  is_string_lem : T (is_padded x.column) → is_placed r (column_in (described_as t) (column_of a)).datatype.number ≡ false
  unfolding is_padded
  is_string_lem p =
      let c = column_in (described_as t) (column_of a) in
      let string = is_string c.datatype.number in
      let s = and_l string (not c.array) (and_l (string && not c.array) (ltb 0 c.maximum) (rw column_is at p)) in
      rw (is_true string s)

  kept_by : T (is_padded x.column) → (k : Kind) → kind_with (described_as t).managers (described_as t).manager_count (binding_in (described_as t) (column_of a)).sequence ≡ k → k ≡ Standard
  kept_by p Other e = absurd (rw (target_sequence (described_as t) r, e) at (target_held (described_as t) r (passed t f r l h).held))
  kept_by p Standard e = refl
  kept_by p Incremental e = absurd (rw (target_sequence (described_as t) r, e, is_string_lem p) at (target_held (described_as t) r (passed t f r l h).held))

  holds : HoldsCell f x
  holds = every_view t f l row a h

  whole_length : length (padded_of f x) ≡ x.count / 8
  whole_length = ap length (padded_is f x) ∙ part_length f (x.first / 8) (x.count / 8) (omega (arith, holds.there))

  same_place : x ≡ answer_of t f (Place row a) l
  same_place = views_place t f l row a h

  some : 0 < length (padded_of f x)
  some =
      let z = rw (← same_place) at (every_place_has_bits t f l row a (rw same_place at h)) in
      omega (arith, whole_length, z, holds.bytes)

  first_byte : get_or (padded_of f x) 0 0 ≡ get_or f (x.first / 8) 0
  first_byte =
      let e : x.first / 8 + 0 ≡ x.first / 8 = omega arith in
      ap (λ (y : List ℕ). get_or y 0 0) (padded_is f x) ∙ part_at f (x.first / 8) (x.count / 8) 0 (omega (arith, some, whole_length)) ∙ ap (λ (n : ℕ). get_or f n 0) e

  part_by : (b : Bool) → is_padded x.column ≡ b → view_of f x ≡ take (length (view_of f x)) (drop (x.first / 8) f)
  part_by true e =
      let v = view_text f x (rw e tt) in
      rw v (text_part (padded_of f x) (drop (x.first / 8) f) (x.count / 8) (padded_is f x) (omega (arith, whole_length)))
  part_by false e =
      let v = view_whole f x (λ p. rw e at p) in
      rw v (padded_is f x ∙ sym (held_part f (x.first / 8) (x.count / 8) (ap length (padded_is f x))))

  empty_by : (b : Bool) → is_padded x.column ≡ b → view_of f x ≡ [] → EmptyText f x
  empty_by true e v = (rw e tt, sym first_byte ∙ none_first (padded_of f x) some (sym (view_text f x (rw e tt)) ∙ v))
  empty_by false e v =
      let z : length (padded_of f x) ≡ 0 = ap length (sym (view_whole f x (λ p. rw e at p)) ∙ v) in
      absurd (omega (arith, some, z))

  shows : Shows t f l row a x (view_of f x)
  shows = record {
    column = column_is;
    standard = λ p. kept_by p _ refl;
    whole = ap (λ (n : ℕ). 8 * n) whole_length ∙ sym holds.bytes ∙ ap (λ (y : Answer). y.count) same_place;
    starts = sym holds.starts ∙ ap (λ (y : Answer). y.first) same_place;
    part = part_by _ refl;
    text = λ p. rw (view_text f x p) (longest_text (padded_of f x));
    other = view_whole f x;
    empty = empty_by _ refl;
    only = λ e. view_text f x e.0 ∙ first_none (padded_of f x) (first_byte ∙ e.1);
  }

-- Of every view, by position or by plan, refused or not.
pub every_viewed : EveryViewed
every_viewed t f l row a = record {
  refused = λ h. no_part f _ (ap (λ (b : Bits). b.count) (refused_bits t f (View row a) l h));
  shows = shows t f l row a;
}

-- the same of what is handed out
module _ (t f : List ℕ) (l row : ℕ) (a : Asked) where
  pub viewed : {v : List ℕ} → v ≡ view_of f (answer_of t f (View row a) l) → Viewed t f l row a v (answer_of t f (View row a) l).refused
  viewed e = rw e (every_viewed t f l row a)

  pub told : {why : Refusal} → why ≡ (answer_of t f (View row a) l).refused → Viewed t f l row a (view_of f (answer_of t f (View row a) l)) why
  told e = rw e (every_viewed t f l row a)
