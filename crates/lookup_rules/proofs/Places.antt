-- Demand 3 holds of the answers.
-- Assumes nothing.
use mathlib.Core.Path.{◌≡◌, refl, ap, ◌∙◌}
use mathlib.Core.List.{List}
use mathlib.Core.Bool.{false}
use Prim.Native.Nat.{ℕ, ◌<◌}
use lib.Dec.{T}
use Rattle.bytes_at.specs.declared.Refusal.{Refusal}
use Rattle.bytes_at.proofs.Stages.{then_left, then_right, or_passed}
use Rattle.table_rules.specs.declared.Kind.{Kind}
use Rattle.table_rules.specs.declared.Description.{Description}
use Rattle.table_rules.specs.Table.{described_as, binding_in}
use Rattle.standard_rules.specs.Place.{Bits, place_of}
use Rattle.standard_rules.specs.Map.{fits, Kept, map_of}
use Rattle.standard_rules.proofs.Places.{every_two}
use Rattle.standard_rules.specs.Check.{refusal_with, refusal_of}
use Rattle.lookup_rules.specs.declared.Request.{Request}
use Rattle.lookup_rules.specs.declared.Question.TheVariants.{Place}
use Rattle.lookup_rules.specs.Questions.{column_of, request_of, kind_with, is_incremental, place_in, answer_for, answer_of}
use Rattle.lookup_rules.specs.Answers.{answer_bits}
use Rattle.lookup_rules.specs.declared.Asked.{Asked}
use Rattle.lookup_rules.specs.Demand.{carries, in_standard, Places}
use Rattle.lookup_rules.proofs.CellAsked.{Cell, cell_sequence, cell_column, cell_row, cell_bits_lem}
use Rattle.standard_rules.proofs.Columns.{column_kept, map_rows}
use Rattle.lookup_rules.proofs.Files.{standard_refused}
use Rattle.lookup_rules.proofs.Stages.{target_for, target_sequence, target_kind, passed}

pub map_fits : (d : Description) (sequence : ℕ) (f : List ℕ) (refused : Refusal) (l : ℕ) → (refusal_of d sequence f refused l).number ≡ 0 → T (fits (map_of d sequence f))
unfolding refusal_with
map_fits d sequence f refused l h = or_passed (fits (map_of d sequence f)) 10 0 (search (then_left, then_right) depth 9)

pub place_standard : (d : Description) (sequence : ℕ) (f : List ℕ) (row c : ℕ) → place_in d false sequence f row c ≡ place_of (map_of d sequence f) row c
unfolding place_in
place_standard d sequence f row c = refl

-- What an answer that is not refused shows of the map of the manager's file, for a question that asks for a cell.
pub record Placed (t f : List ℕ) (sequence row c : ℕ) (b : Bits) : Type 0 where
  pub fit : T (fits (map_of (described_as t) sequence f))
  pub kept : Kept (map_of (described_as t) sequence f) c
  pub below : row < (map_of (described_as t) sequence f).rows
  pub same : b ≡ place_of (map_of (described_as t) sequence f) row c

module _ (t f : List ℕ) (sequence l : ℕ) (r : Request) (w : Cell r) (k : in_standard t sequence)
    (e : (binding_in (described_as t) r.position).sequence ≡ sequence) (h : (answer_for t f r l).refused.number ≡ 0) where
  pub own : (target_for t f r l).sequence ≡ sequence
  own = target_sequence (described_as t) r ∙ cell_sequence r _ w ∙ e

  pub kind : (target_for t f r l).incremental ≡ false
  kind =
      target_kind (described_as t) r
      ∙ ap (λ (n : ℕ). is_incremental (kind_with (described_as t).managers (described_as t).manager_count n)) own
      ∙ ap (λ (x : Kind). is_incremental x) k

  pub accepted : (refusal_of (described_as t) (target_for t f r l).sequence f (target_for t f r l).refused l).number ≡ 0
  accepted = rw (standard_refused (described_as t) (target_for t f r l) f l kind r.own r.row) at (passed t f r l h).checked

  pub shown : Placed t f sequence r.row r.position (answer_bits (answer_for t f r l))
  shown =
      let x = passed t f r l h in
      record {
        fit = rw own at (map_fits (described_as t) _ f _ l accepted);
        kept = column_kept (described_as t) sequence f r.position (cell_column r _ w x.column) e;
        below = rw map_rows (cell_row r _ w x.row);
        same =
            ap answer_bits x.same ∙ cell_bits_lem r.cell _ w.cell
            ∙ rw (own, kind) (place_standard (described_as t) sequence f r.row r.position);
      }

-- by position and by plan alike
placed : (t f : List ℕ) (sequence l row : ℕ) (a : Asked) → in_standard t sequence → carries t a sequence
    → (answer_of t f (Place row a) l).refused.number ≡ 0
    → Placed t f sequence row (column_of a) (answer_bits (answer_of t f (Place row a) l))
placed t f sequence l row a k e h = shown t f sequence l (request_of (Place row a)) (record { cell = refl; column = refl }) k e h

-- Demand 3: of every two answers of Place that are not refused, for the same bytes of table and file, asked by position or by
-- plan and each with its own index room, the places lie in the data buckets that the index gives to their rows, off the header,
-- the index buckets and the free buckets, and have no bit in common where the cells differ.
pub places : Places
places t f sequence l l' row row' a a' k e e' h h' =
    let x = placed t f sequence l row a k e h in
    let y = placed t f sequence l' row' a' k e' h' in
    rw (x.same, y.same)
    (every_two (map_of (described_as t) sequence f) x.fit row (column_of a) row' (column_of a') x.below x.kept y.below y.kept)
