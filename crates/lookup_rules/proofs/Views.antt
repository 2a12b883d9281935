-- A view that is not refused holds the cell: whole bytes, all of them in the file.
-- Assumes nothing.
use mathlib.Core.Path.{◌≡◌, refl, ap, ◌∙◌}
use mathlib.Core.List.{List}
use mathlib.Core.Bool.{false}
use Prim.Native.Nat.{ℕ, ◌+◌, ◌*◌, ◌≤◌, ◌<◌}
use native.Mathlib.Omega.{arith}
use lib.Dec.{T, leb→le}
use lib.ListN.{length}
use borrow.Author.Tests.{eq-eqb}
use Rattle.bytes_at.specs.declared.Refusal.{Refusal}
use Rattle.bytes_at.specs.Steps.{◌>>=◌}
use Rattle.bytes_at.proofs.Tests.{is_true}
use Rattle.bytes_at.proofs.Stages.{then_left, then_right, or_passed}
use Rattle.table_rules.specs.declared.Column.{Column}
use Rattle.table_rules.specs.declared.Kind.{Kind}
use Rattle.table_rules.specs.declared.Kind.TheVariants.{Other, Standard, Incremental}
use Rattle.table_rules.specs.declared.Description.{Description}
use Rattle.table_rules.specs.Table.{described_as, column_in, binding_in}
use Rattle.standard_rules.specs.Map.{Map, column_at, ceil8, map_with, map_of}
use Rattle.standard_rules.specs.Header.{bucket_start, header_at}
use Rattle.standard_rules.specs.Place.{Bits, place_of, bucket_in, local_row}
use Rattle.standard_rules.proofs.Places.{step, every_two}
use Rattle.standard_rules.specs.Check.{long_enough, refusal_with, refusal_of}
use Rattle.incremental_rules.specs.Header.{header_at as incremental_header}
use Rattle.incremental_rules.specs.Place.{place_of as incremental_place, bit_of}
use Rattle.incremental_rules.proofs.Places.{by_parts}
use Rattle.lookup_rules.specs.declared.Plan.{Plan}
use Rattle.lookup_rules.specs.declared.Request.{Request}
use Rattle.lookup_rules.specs.declared.Asked.{Asked}
use Rattle.lookup_rules.specs.declared.Question.TheVariants.{Place, View}
use Rattle.lookup_rules.specs.declared.Answer.{Answer}
use Rattle.lookup_rules.specs.Questions.{request_of, kind_with, is_seen, target_of, plan_for, stages_after, stages_of, answered, answer_for, answer_of}
use Rattle.lookup_rules.specs.Answers.{answer_bits}
use Rattle.lookup_rules.specs.Stale.{plan_of_now}
use Rattle.lookup_rules.specs.Views.{HoldsCell, EveryView, ViewsPlace, EveryPlaceHasBits}
use Rattle.lookup_rules.proofs.CellAsked.{Cell, cell_sequence, cell_column}
use Rattle.table_rules.proofs.WholeBytes.{Even8, eight, times_even}
use Rattle.table_rules.proofs.Described.{described}
use Rattle.table_rules.proofs.SomeBits.{bits_some}
use Rattle.standard_rules.proofs.Columns.{column_same}
use Rattle.lookup_rules.proofs.Stages.{answer_refused, target_for, target_sequence, target_described, target_held, description_passed, stages_plan, seen_passed, passed}
use Rattle.lookup_rules.proofs.Places as standard
use Rattle.lookup_rules.proofs.IncrementalPlaces as incremental

-- ---- of a run of bits
record Holds (f : List ℕ) (b : Bits) : Type 0 where
  starts : Even8 b.first
  bytes : Even8 b.count
  there : b.first + b.count ≤ 8 * length f

holds : (f : List ℕ) (a : Answer) → Holds f (answer_bits a) → HoldsCell f a
holds f a h = record { starts = h.starts; bytes = h.bytes; there = omega (arith, h.starts, h.bytes, h.there) }

-- ---- in StandardStMan
long_enough_lem : (d : Description) (sequence : ℕ) (f : List ℕ) (refused : Refusal) (l : ℕ) → (refusal_of d sequence f refused l).number ≡ 0
    → 512 + (map_of d sequence f).count * (map_of d sequence f).size ≤ length f
unfolding refusal_with map_with
long_enough_lem d sequence f refused l h = leb→le _ _ (or_passed (long_enough (length f) (header_at f d.big).size (header_at f d.big).count) 0 (length f) (search (then_left, then_right) depth 9))

-- 8 x the bytes up to the cell's local row, and its bits
even_first : (a k n : ℕ) → Even8 n → Even8 (8 * a + k * n)
even_first a k n e = omega (arith, times_even k n e)

module _ (t f : List ℕ) (l : ℕ) (r : Request) (w : Cell r) (h : (answer_for t f r l).refused.number ≡ 0) where
  abbrev d : Description
  d = described_as t

  abbrev c : ℕ
  c = r.position

  abbrev sequence : ℕ
  sequence = (binding_in d c).sequence

  known : c < d.column_count
  known = cell_column r d.column_count w (passed t f r l h).column

  module _ (k : kind_with d.managers d.manager_count sequence ≡ Standard) (s : (column_in d c).datatype.number ≡ 0 → ⊥) where
    abbrev m : Map
    m = map_of d sequence f

    bits_even : Even8 (column_at m c).bits
    bits_even = rw (column_same d sequence f c known) (((described t).columns_whole c).whole s)

    long : 512 + m.count * m.size ≤ length f
    long = rw (standard.own t f sequence l r w k refl h) at (long_enough_lem d _ f _ l (standard.accepted t f sequence l r w k refl h))

    standard_place : Holds f (place_of m r.row c)
    standard_place =
        let x = standard.shown t f sequence l r w k refl h in
        let e = (every_two m x.fit r.row c r.row c x.below x.kept x.below x.kept).one in
        record {
          starts = even_first (bucket_start m.size (bucket_in m r.row c) + (column_at m c).offset) (local_row m r.row c) (column_at m c).bits bits_even;
          bytes = bits_even;
          there = omega (arith, e.inside.1, step m.size e.in_range, long);
        }

    standard_holds : Holds f (answer_bits (answer_for t f r l))
    standard_holds = rw (standard.shown t f sequence l r w k refl h).same standard_place

  module _ (k : kind_with d.managers d.manager_count sequence ≡ Incremental) where
    there_long : 512 + (incremental_header f d.big).count * (incremental_header f d.big).size ≤ length f
    there_long = (by_parts d _ f _ r.row r.own (incremental.accepted t f sequence l r w k refl h)).1.long

    incremental_even : (n : ℕ) → Even8 (incremental_place d n f c r.row).first
    unfolding incremental_place bit_of
    incremental_even n = eight _ _ refl

    incremental_bytes : (n : ℕ) → Even8 (incremental_place d n f c r.row).count
    unfolding incremental_place
    incremental_bytes n = eight _ _ refl

    incremental_holds : Holds f (answer_bits (answer_for t f r l))
    incremental_holds =
        let x = incremental.safe t f sequence l r w k refl h in
        let e = incremental.same t f sequence l r w k refl h in
        record {
          starts = rw (ap (λ (b : Bits). b.first) e) (incremental_even _);
          bytes = rw (ap (λ (b : Bits). b.count) e) (incremental_bytes _);
          there = omega (arith, x.inside.1, x.inside_bucket.1, step (incremental_header f d.big).size x.in_range, there_long);
        }

-- ---- by the manager's kind
module _ (t f : List ℕ) (l row : ℕ) (a : Asked) (h : (answer_of t f (View row a) l).refused.number ≡ 0) where
  abbrev r : Request
  r = request_of (View row a)

  asked : Cell r
  asked = record { cell = refl; column = refl }

  no_bool : (n : ℕ) → T (is_seen r false n) → n ≡ 0 → ⊥
  no_bool n s e = rw (eq-eqb n 0 e) at s

  datatype_is : (stages_of t f r l).plan.datatype ≡ (column_in (described_as t) r.position).datatype.number
  unfolding plan_for ◌>>=◌
  datatype_is = ap (λ (p : Plan). p.datatype) (stages_plan t f r l) ∙ ap (λ (c : Column). c.datatype.number) (target_described (described_as t) r)

  shown_bool : (target_for t f r l).incremental ≡ false → (column_in (described_as t) r.position).datatype.number ≡ 0 → ⊥
  shown_bool k = no_bool _ (rw (k, datatype_is) at (seen_passed t f r l (rw (answer_refused t f r l) at h)))

  by_kind : (k : Kind) → kind_with (described_as t).managers (described_as t).manager_count (binding_in (described_as t) r.position).sequence ≡ k
      → Holds f (answer_bits (answer_for t f r l))
  by_kind Other e = absurd (rw (target_sequence (described_as t) r, e) at (target_held (described_as t) r (passed t f r l h).held))
  by_kind Standard e = standard_holds t f l r asked h e (shown_bool (standard.kind t f _ l r asked e refl h))
  by_kind Incremental e = incremental_holds t f l r asked h e

-- Every view that is not refused, by position or by plan and in both managers, holds its cell.
pub every_view : EveryView
every_view t f l row a h = holds f _ (by_kind t f l row a h _ refl)

-- ---- the same bits as Place's: the view's stage is the last, and asks for nothing else
same_stages : (t f : List ℕ) (l row : ℕ) (a : Asked) → (stages_of t f (request_of (View row a)) l).refused.number ≡ 0
    → stages_of t f (request_of (View row a)) l ≡ stages_of t f (request_of (Place row a)) l
unfolding stages_of stages_after target_of ◌>>=◌
same_stages t f l row a h =
    let r = request_of (View row a) in
    let seen = is_seen r (target_for t f r l).incremental (plan_of_now t f r l).datatype in
    rw (is_true seen (seen_passed t f r l h))

pub views_place : ViewsPlace
unfolding answer_for answered
views_place t f l row a h = rw (same_stages t f l row a (rw (answer_refused t f (request_of (View row a)) l) at h))

-- ---- a place is never empty: cell bits are never 0
bits_there : (bits : ℕ) → 0 < bits → 0 < 8 * ceil8 bits
bits_there bits h = omega arith

module _ (t f : List ℕ) (l : ℕ) (p : Request) (held : Cell p) (h : (answer_for t f p l).refused.number ≡ 0) where
  described_some : 0 < (column_in (described_as t) p.position).bits
  described_some =
      bits_some t p.position (description_passed (described_as t) p (passed t f p l h).held) (cell_column p _ held (passed t f p l h).column)

  own_kind : (target_for t f p l).sequence ≡ (binding_in (described_as t) p.position).sequence
  own_kind = target_sequence (described_as t) p ∙ cell_sequence p _ held

  some_by : (k : Kind) → kind_with (described_as t).managers (described_as t).manager_count (binding_in (described_as t) p.position).sequence ≡ k
      → 0 < (answer_for t f p l).count
  unfolding incremental_place
  some_by Other e = absurd (rw (own_kind, e) at (target_held (described_as t) p (passed t f p l h).held))
  some_by Standard e =
      rw (ap (λ (b : Bits). b.count) (standard.shown t f _ l p held e refl h).same, column_same (described_as t) _ f p.position (cell_column p _ held (passed t f p l h).column))
      described_some
  some_by Incremental e = rw (ap (λ (b : Bits). b.count) (incremental.same t f _ l p held e refl h)) (bits_there _ described_some)

  -- of every answer to a question that asks for a cell
  pub some_bits : 0 < (answer_for t f p l).count
  some_bits = some_by _ refl

-- Every place that is not refused has bits, and so has every view, which is of the same bits.
pub every_place_has_bits : EveryPlaceHasBits
every_place_has_bits t f l row a h = some_bits t f l (request_of (Place row a)) (record { cell = refl; column = refl }) h
