-- What holds of the places of IncrementalStMan, of the answers.
-- Assumes nothing.
use mathlib.Core.Path.{◌≡◌, refl, sym, ap, ◌∙◌}
use mathlib.Core.List.{List}
use mathlib.Core.Bool.{true}
use Prim.Native.Nat.{ℕ}
use lib.Dec.{T}
use borrow.Author.Tests.{eq-eqb}
use Rattle.table_rules.specs.declared.Kind.{Kind}
use Rattle.table_rules.specs.declared.Kind.TheVariants.{Incremental}
use Rattle.table_rules.specs.declared.Description.{Description}
use Rattle.table_rules.specs.Table.{described_as, binding_in}
use Rattle.incremental_rules.specs.Place.{place_of, Kept}
use Rattle.incremental_rules.specs.OneBucket.{refusal_by}
use Rattle.incremental_rules.proofs.Places.{by_place}
use Rattle.lookup_rules.specs.declared.Request.{Request}
use Rattle.lookup_rules.specs.declared.Question.TheVariants.{Place}
use Rattle.lookup_rules.specs.Questions.{request_of, kind_with, is_incremental, is_placed, place_in, answer_for}
use Rattle.lookup_rules.specs.Answers.{answer_bits}
use Rattle.lookup_rules.specs.Demand.{in_incremental, SafeThere, PlacesThere}
use Rattle.lookup_rules.proofs.CellAsked.{Cell, cell_sequence, cell_column, cell_row, cell_bits_lem}
use Rattle.table_rules.proofs.Described.{described}
use Rattle.lookup_rules.proofs.Files.{incremental_refused}
use Rattle.lookup_rules.proofs.Stages.{target_for, target_sequence, target_kind, target_held, passed}

-- a question that asks for a cell is not placed in a column of Strings
no_string : (r : Request) (datatype : ℕ) → Cell r → T (is_placed r datatype) → datatype ≡ 11 → ⊥
no_string r datatype w h e = rw (w.column, eq-eqb datatype 11 e) at h

pub place_there : (d : Description) (sequence : ℕ) (f : List ℕ) (row c : ℕ) → place_in d true sequence f row c ≡ place_of d sequence f c row
unfolding place_in
place_there d sequence f row c = refl

module _ (t f : List ℕ) (sequence l : ℕ) (r : Request) (w : Cell r) (k : in_incremental t sequence)
    (e : (binding_in (described_as t) r.position).sequence ≡ sequence) (h : (answer_for t f r l).refused.number ≡ 0) where
  abbrev d : Description
  d = described_as t

  own : (target_for t f r l).sequence ≡ sequence
  own = target_sequence d r ∙ cell_sequence r _ w ∙ e

  held_kind : kind_with d.managers d.manager_count (target_for t f r l).sequence ≡ Incremental
  held_kind = ap (λ (n : ℕ). kind_with d.managers d.manager_count n) own ∙ k

  kind : (target_for t f r l).incremental ≡ true
  kind = target_kind d r ∙ ap (λ (x : Kind). is_incremental x) held_kind

  pub accepted : (refusal_by r.own d (target_for t f r l).sequence f (target_for t f r l).refused r.row).number ≡ 0
  accepted = rw (incremental_refused d (target_for t f r l) f l kind r.own r.row) at (passed t f r l h).checked

  pub kept : Kept d (target_for t f r l).sequence r.position
  kept = record {
    known = cell_column r _ w (passed t f r l h).column;
    bound = e ∙ sym own;
    no_string = no_string r _ w (rw held_kind at (target_held d r (passed t f r l h).held));
  }

  pub same : answer_bits (answer_for t f r l) ≡ place_of d (target_for t f r l).sequence f r.position r.row
  same =
      ap answer_bits (passed t f r l h).same ∙ cell_bits_lem r.cell _ w.cell
      ∙ rw kind (place_there d (target_for t f r l).sequence f r.row r.position)

  pub safe : SafeThere t f (answer_bits (answer_for t f r l)) r.row
  safe =
      rw same
      (by_place d (target_for t f r l).sequence f (target_for t f r l).refused r.row (described t).columns_most r.position
      (cell_row r _ w (passed t f r l h).row) r.own accepted kept)

-- by position and by plan alike
pub places_there : PlacesThere
places_there t f sequence l row a k e h = safe t f sequence l (request_of (Place row a)) (record { cell = refl; column = refl }) k e h
