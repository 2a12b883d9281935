-- What a file that is accepted shows of its sets.
-- Assumes nothing.
use mathlib.Core.Path.{◌≡◌}
use mathlib.Core.List.{List}
use Prim.Native.Nat.{ℕ, ◌≤◌, ◌<◌}
use lib.Dec.{T}
use lib.ListN.{length, get_or}
use borrow.Author.Tests.{eq-eqb}
use Rattle.bytes_at.specs.declared.Refusal.{Refusal}
use Rattle.bytes_at.proofs.Stages.{then_left, then_right}
use Rattle.table_rules.specs.declared.Description.{Description}
use Rattle.standard_rules.specs.Map.{column_at, set_at, no_map_set, covers, Kept, map_set, map_with, map_of}
use Rattle.standard_rules.proofs.Accepting.{accepted, set_covers}
use Rattle.standard_rules.specs.Header.{header_at}
use Rattle.standard_rules.specs.Index.{no_set, index_at, index_text_of}
use Rattle.standard_index.specs.Bounds.{SetInside}
use Rattle.standard_index.proofs.text.IndexLaws.{index_inside}
use Rattle.standard.proofs.Gathering.{sets_length, sets_at_lem}
use Rattle.standard_rules.proofs.HeaderBounds.{header_bounds}
use Rattle.lookup_rules.proofs.Places.{map_fits}
use Rattle.standard_rules.specs.Check.{refusal_with, checked_with, refusal_of, checked_as}

module _ (d : Description) (sequence : ℕ) (f : List ℕ) (refused : Refusal) (l : ℕ) where
  index_passed : (refusal_of d sequence f refused l).number ≡ 0 → (index_at (index_text_of f (header_at f d.big)) d.big (header_at f d.big).sets).refused.number ≡ 0
  unfolding refusal_with
  index_passed z = search (then_left, then_right) depth 9

  -- the set and the bucket size that the check tells are the file's
  pub set_told : (refusal_of d sequence f refused l).number ≡ 0
      → (k : ℕ) → (checked_as d sequence f refused k l).set ≡ get_or (index_at (index_text_of f (header_at f d.big)) d.big (header_at f d.big).sets).sets k no_set
  unfolding checked_with
  set_told z k = rw (eq-eqb (refusal_of d sequence f refused l).number 0 z)

  pub size_told : (refusal_of d sequence f refused l).number ≡ 0 → (k : ℕ) → (checked_as d sequence f refused k l).size ≡ (map_of d sequence f).size
  unfolding checked_with map_with
  size_told z k = rw (eq-eqb (refusal_of d sequence f refused l).number 0 z)

  map_sets : length (map_of d sequence f).sets ≡ (header_at f d.big).sets
  unfolding map_with
  map_sets = sets_length _ _ _ _ 0

  -- the set of a column that is kept is one of them
  pub set_known_lem : (refusal_of d sequence f refused l).number ≡ 0 → (c : ℕ) → Kept (map_of d sequence f) c → (column_at (map_of d sequence f) c).set < (header_at f d.big).sets
  set_known_lem z c k = rw (← map_sets) ((accepted (map_of d sequence f) (map_fits d sequence f refused l z)).set_known c k)

  -- the map's set is the text's
  pub set_same : (k : ℕ) → k < (header_at f d.big).sets
      → set_at (map_of d sequence f) k ≡ map_set d.big (index_text_of f (header_at f d.big)) (get_or (index_at (index_text_of f (header_at f d.big)) d.big (header_at f d.big).sets).sets k no_set)
  unfolding map_with
  set_same k h = sets_at_lem _ _ _ no_map_set _ k h

  -- and its last rows cover the table's rows
  pub set_covered : (refusal_of d sequence f refused l).number ≡ 0 → (k : ℕ) → k < (header_at f d.big).sets
      → T (covers (map_of d sequence f).rows (set_at (map_of d sequence f) k).rows_per 0 (set_at (map_of d sequence f) k).lasts)
  set_covered z k h = set_covers (map_of d sequence f) (map_fits d sequence f refused l z) k (rw map_sets h)

  -- its lists lie in the text
  pub set_inside : (refusal_of d sequence f refused l).number ≡ 0 → (k : ℕ) → k < (header_at f d.big).sets
      → SetInside (length (index_text_of f (header_at f d.big))) (get_or (index_at (index_text_of f (header_at f d.big)) d.big (header_at f d.big).sets).sets k no_set)
  set_inside z k h = index_inside _ d.big _ (header_bounds f d.big).sets_most (index_passed z) k h

  pub size_most : (map_of d sequence f).size ≤ 1048576
  unfolding map_with
  size_most = (header_bounds f d.big).size_most
