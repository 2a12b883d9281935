-- The cell that a question asks for: where nothing is refused, the room shows the column's set, and the first bit and the looks
-- found there are the map's.
-- Assumes nothing.
use mathlib.Core.Path.{◌≡◌, refl, sym, ap, ◌∙◌}
use mathlib.Core.List.{List}
use mathlib.Core.Bool.{Bool, true, false, cond}
use Prim.Native.Nat.{ℕ, ◌-◌, ◌≤◌, ◌<◌}
use native.Mathlib.Decide.{ℕ_discrete}
use native.Mathlib.Omega.{arith}
use lib.Dec.{T}
use lib.ListN.{length, get_or, replicate, length-append}
use borrow.Author.Tests.{eq-eqb, ne_eqb}
use Rattle.bytes_at.specs.declared.Refusal.{Refusal}
use Rattle.bytes_at.specs.Steps.{◌>>=◌}
use Rattle.table_rules.specs.declared.Column.{Column}
use Rattle.table_rules.specs.declared.Binding.{Binding}
use Rattle.table_rules.specs.declared.Description.{Description}
use Rattle.table_rules.specs.Table.{described_as, column_in, binding_in}
use Rattle.standard_rules.specs.Check.{padded, refusal_of, checked_as}
use Rattle.standard_rules.specs.Map.{Map, MapColumn, column_at, set_at, set_of, Kept, covers, map_set, map_column, map_with, map_of}
use Rattle.standard_rules.specs.Place.{Bits, place_of}
use Rattle.bytes_at.proofs.Tests.{is_true}
use Rattle.bytes_at.specs.Number.{int_bytes, numbers_at}
use Rattle.standard_rules.specs.declared.Set.{Set}
use Rattle.standard_rules.specs.Header.{header_at}
use Rattle.standard_rules.specs.Index.{no_set, index_at, index_text_of}
use Rattle.standard_index.specs.Bounds.{SetInside}
use Rattle.standard_index.proofs.text.IndexLaws.{longer}
use Rattle.incremental_rules.specs.OneBucket.{checked_by}
use Rattle.incremental_rules.specs.Place.{place_of as incremental_place}
use Rattle.incremental_rules.proofs.Places.{by_there}
use Rattle.standard_rules.specs.Looks.{Looks, looks_of}
use Rattle.standard_rules.specs.declared.Entry.{Entry}
use Rattle.standard.specs.declared.Located.{Located}
use Rattle.standard.specs.Bit.{by_halving, local_by, bit_by_halving, located_by}
use Rattle.standard.proofs.place.Bits.{bit_is, looks_are, local_below, entry_known, some_entry}
use Rattle.standard.proofs.place.Padded.{bit_same, local_same, halving_same}
use Rattle.lookup_rules.specs.declared.Plan.{Plan}
use Rattle.lookup_rules.specs.declared.Question.{Question}
use Rattle.lookup_rules.specs.declared.Request.{Request}
use Rattle.lookup_rules.specs.declared.FileChecked.{FileChecked}
use Rattle.lookup_rules.specs.declared.Staged.{Staged}
use Rattle.lookup_rules.specs.declared.Answer.{Answer}
use Rattle.lookup_rules.specs.Questions.{request_of, target_of, of_standard, file_of, plan_for, stages_of, place_in, looks_in, no_bits, no_looks, answered, answer_for, answer_of}
use Rattle.lookup_rules.proofs.CellAsked.{Cell, cell_asked, cell_sequence, cell_column, cell_row}
use Rattle.standard_rules.proofs.Columns.{column_kept, column_same}
use Rattle.table_rules.proofs.Described.{described}
use Rattle.lookup_rules.proofs.Files.{file_standard, file_incremental, standard_refused, incremental_refused, target_passed}
use Rattle.lookup_rules.proofs.Places.{place_standard}
use Rattle.lookup_rules.proofs.IncrementalPlaces.{place_there}
use Rattle.lookup_rules.proofs.Looks.{looks_standard, looks_there}
use Rattle.lookup_rules.proofs.Stages.{check_of, row_passed, stages_sequence, stages_kind, target_column, target_sequence, target_position, target_binding, target_described, stages_plan, stages_set, stages_big, stages_first}
use Rattle.lookup.specs.Answering.{Findable, cell_found, answer_with}
use Rattle.lookup.proofs.answer.Placing.{set_told, size_told, set_known_lem, set_same, set_covered, set_inside, size_most}

-- ---- where nothing is refused, of a question that asks for a cell of a StandardStMan file
module _ (t f : List ℕ) (r : Request) (l : ℕ) (z : (stages_of t f r l).refused.number ≡ 0) (w : Cell r)
    (k : (target_of (described_as t) r).incremental ≡ false) where
  abbrev d : Description
  d = described_as t

  abbrev c : ℕ
  c = r.position

  abbrev row : ℕ
  row = r.row

  abbrev b : Binding
  b = binding_in d c

  abbrev sequence : ℕ
  sequence = (target_of d r).sequence

  abbrev m : Map
  m = map_of d sequence f

  abbrev before : Refusal
  before = (target_of d r).refused

  abbrev text : List ℕ
  text = index_text_of f (header_at f d.big)

  -- the column's set, as the index text has it
  abbrev x : Set
  x = get_or (index_at text d.big (header_at f d.big).sets).sets b.set no_set

  own : b.sequence ≡ sequence
  own = sym (target_sequence d r ∙ cell_sequence r b.sequence w)

  passes : (refusal_of d sequence f before l).number ≡ 0
  passes = rw (standard_refused d (target_of d r) f l k r.own row) at (check_of t f r l z)

  known : c < d.column_count
  known = cell_column r d.column_count w (target_column d r (target_passed d (target_of d r) f l r.own row (check_of t f r l z)))

  below : row < d.rows
  below = cell_row r d.rows w (row_passed t f r l z)

  kept : Kept m c
  kept = column_kept d sequence f c known own

  column_is : column_at m c ≡ map_column sequence (column_in d c) b
  column_is = column_same d sequence f c known

  listed : b.set < (header_at f d.big).sets
  listed = rw (ap (λ (k : MapColumn). k.set) column_is) at (set_known_lem d sequence f before l passes c kept)

  map_set_lem : set_of m c ≡ map_set d.big text x
  map_set_lem = ap (λ (k : MapColumn). set_at m k.set) column_is ∙ set_same d sequence f before l b.set listed

  covered : T (covers d.rows x.per 0 (numbers_at d.big (int_bytes x.wide) text x.lasts x.entries))
  unfolding map_with
  covered = rw (set_same d sequence f before l b.set listed) at (set_covered d sequence f before l passes b.set listed)

  -- what the stages hand over
  file_is : file_of d (target_of d r) f r.own row l ≡ of_standard (checked_as d sequence f before (target_of d r).binding.set l)
  file_is = file_standard d (target_of d r) f l k r.own row

  set_is : (stages_of t f r l).set ≡ x
  set_is =
      stages_set t f r l
      ∙ ap (λ (m : FileChecked). m.set) file_is
      ∙ set_told d sequence f before l passes (target_of d r).binding.set
      ∙ ap (λ (y : Binding). get_or (index_at text d.big (header_at f d.big).sets).sets y.set no_set) (target_binding d r)

  size_is : (stages_of t f r l).plan.size ≡ m.size
  unfolding plan_for ◌>>=◌
  size_is = ap (λ (p : Plan). p.size) (stages_plan t f r l) ∙ ap (λ (m : FileChecked). m.size) file_is ∙ size_told d sequence f before l passes (target_of d r).binding.set

  offset_is : (stages_of t f r l).plan.offset ≡ (column_at m c).offset
  unfolding plan_for ◌>>=◌
  offset_is =
      ap (λ (p : Plan). p.offset) (stages_plan t f r l) ∙ rw k (ap (λ (y : Binding). y.offset) (target_binding d r))
      ∙ sym (ap (λ (e : MapColumn). e.offset) column_is)

  bits_is : (stages_of t f r l).plan.bits ≡ (column_at m c).bits
  unfolding plan_for ◌>>=◌
  bits_is =
      ap (λ (p : Plan). p.bits) (stages_plan t f r l) ∙ rw k (ap (λ (y : Column). y.bits) (target_described d r))
      ∙ sym (ap (λ (e : MapColumn). e.bits) column_is)

  inside : SetInside (length text) x
  inside = set_inside d sequence f before l passes b.set listed

  module _ {y : List ℕ} (e : y ≡ padded l text) where
    text_fits : length text ≤ length y
    unfolding padded
    text_fits = rw e (omega (arith, length-append text (replicate (l - length text) 0)))

    -- the row's number within its entry, in the room
    local_there : local_by d.big y x row < x.per
    unfolding padded
    local_there =
        rw (e, local_same d.big text (replicate (l - length text) 0) x row inside (entry_known d.big text x d.rows row covered below))
        (local_below d.big text x d.rows row covered below)

    findable : (stages_of t f r l).plan.offset < 4294967296 → (stages_of t f r l).plan.bits ≤ 4294967296 → Findable y (stages_of t f r l) row
    findable o n = record {
      inside = rw set_is (longer text_fits inside);
      some = rw set_is (some_entry d.big text x d.rows row covered below);
      size_most = rw size_is (size_most d sequence f before l);
      offset_most = o;
      bits_most = n;
      local_below = rw (stages_big t f r l, set_is) local_there;
    }

    first_is : bit_by_halving (stages_of t f r l).big y (stages_of t f r l).set (stages_of t f r l).plan.size (stages_of t f r l).plan.offset (stages_of t f r l).plan.bits row
        ≡ (place_of m row c).first
    unfolding padded
    first_is =
        rw (e, stages_big t f r l, set_is, size_is, offset_is, bits_is)
        (bit_same d.big text (replicate (l - length text) 0) x _ _ _ row inside (entry_known d.big text x d.rows row covered below)
        ∙ bit_is d.big text x d.rows row covered below m c map_set_lem)

    looks_is : record { looks = (by_halving (stages_of t f r l).big y (stages_of t f r l).set row).looks; entries = (stages_of t f r l).set.entries } ≡ looks_of m row c
    unfolding padded
    looks_is =
        rw (e, stages_big t f r l, set_is)
        (ap (λ (n : Entry). record { looks = n.looks; entries = x.entries }) (halving_same d.big text (replicate (l - length text) 0) x row inside)
        ∙ looks_are d.big text x d.rows row covered below m c map_set_lem)

-- ---- the same in IncrementalStMan, where the check has found the cell already
module _ (t f : List ℕ) (r : Request) (l : ℕ) (k : (target_of (described_as t) r).incremental ≡ true) where
  there_first : (stages_of t f r l).refused.number ≡ 0 → Cell r
      → (stages_of t f r l).first ≡ (incremental_place (described_as t) (target_of (described_as t) r).sequence f r.position r.row).first
  there_first z w =
      let d = described_as t in
      let g = target_of d r in
      let passed = check_of t f r l z in
      stages_first t f r l
      ∙ ap (λ (m : FileChecked). m.first) (file_incremental d g f l k r.own r.row)
      ∙ ap (λ (c : ℕ). (checked_by r.own d g.sequence f g.refused c r.row).first) (target_position d r)
      ∙ by_there d g.sequence f g.refused r.row
      (described t).columns_most
      r.position
      (cell_row r d.rows w (row_passed t f r l z))
      r.own
      (rw (incremental_refused d g f l k r.own r.row) at passed)
      (cell_column r d.column_count w (target_column d r (target_passed d g f l r.own r.row passed)))
      (sym (target_sequence d r ∙ cell_sequence r (binding_in d r.position).sequence w))

  there_count : (stages_of t f r l).plan.bits ≡ (incremental_place (described_as t) (target_of (described_as t) r).sequence f r.position r.row).count
  unfolding plan_for incremental_place ◌>>=◌
  there_count = ap (λ (p : Plan). p.bits) (stages_plan t f r l) ∙ rw (k, target_described (described_as t) r)

-- ---- `find_cell`
module _ (y : List ℕ) (s : Staged) (r : Request) where
  abbrev here : Located
  here = located_by s.big y s.set s.plan.size s.plan.offset s.plan.bits r.row

  abbrev there : Located
  there = record { first = s.first; looks = 0; entries = 0 }

  cell_here : s.refused.number ≡ 0 → r.cell ≡ true → s.incremental ≡ false → cell_found y s r ≡ here
  unfolding cell_found
  cell_here z w k = rw (eq-eqb s.refused.number 0 z, w, k)

  cell_there : s.refused.number ≡ 0 → r.cell ≡ true → s.incremental ≡ true → cell_found y s r ≡ there
  unfolding cell_found
  cell_there z w k = rw (eq-eqb s.refused.number 0 z, w, k)

-- ---- the answer, by what the calls of `ask` give
-- a refusal carries no bits and no looks, nor does a question that asks for no cell
same_cell : {A : Type 0} (k : Bool) (p p' n : A) → (T k → p ≡ p') → cond k p n ≡ cond k p' n
same_cell true p p' n h = h tt
same_cell false p p' n h = refl

module _ (r : Request) (s : Staged) {p p' : Bits} {n n' : Looks} where
  answered_same : (s.refused.number ≡ 0 → T r.cell → p ≡ p') → (s.refused.number ≡ 0 → T r.cell → n ≡ n') → answered r s p n ≡ answered r s p' n'
  unfolding answered
  answered_same h k = elim (ℕ_discrete s.refused.number 0) [
    | yes e ↦ rw (eq-eqb s.refused.number 0 e, same_cell r.cell p p' no_bits (h e), same_cell r.cell n n' no_looks (k e))
    | no g ↦ rw (ne_eqb s.refused.number 0 g)
  ]

same_bits : {p : Bits} {first count : ℕ} → first ≡ p.first → count ≡ p.count → record { first = first; count = count } ≡ p
same_bits e k = rw (e, k)

-- the bits and the looks of a cell
abbrev bits_found : Located → ℕ → Bits
bits_found x count = record { first = x.first; count = count }

abbrev looks_found : Located → Looks
looks_found x = record { looks = x.looks; entries = x.entries }

module _ (t f : List ℕ) (q : Question) (l : ℕ) {r : Request} (o : r ≡ request_of q) {s : Staged} {y : List ℕ} (e : s ≡ stages_of t f r l)
    (h : s.refused.number ≡ 0 → s.incremental ≡ false → y ≡ padded l (index_text_of f (header_at f (described_as t).big))) where
  -- the place of the cell, and the search for it
  abbrev place : Bits
  place = place_in (described_as t) s.incremental s.sequence f r.row r.position

  abbrev looks : Looks
  looks = looks_in (described_as t) s.incremental s.sequence f r.row r.position

  kind : {b : Bool} → s.incremental ≡ b → (target_of (described_as t) r).incremental ≡ b
  kind k = sym (ap (λ (x : Staged). x.incremental) e ∙ stages_kind t f r l) ∙ k

  same_sequence : s.sequence ≡ (target_of (described_as t) r).sequence
  same_sequence = ap (λ (x : Staged). x.sequence) e ∙ stages_sequence t f r l

  -- a cell is a column's
  asked : r.cell ≡ true → Cell r
  asked w = rw o (cell_asked q (rw (← o, w) tt))

  pub findable_by : s.plan.offset < 4294967296 → s.plan.bits ≤ 4294967296 → s.refused.number ≡ 0 → r.cell ≡ true → s.incremental ≡ false → Findable y s r.row
  findable_by o n z w k = rw e (findable t f r l (rw e at z) (asked w) (kind k) (h z k) (rw e at o) (rw e at n))

  module _ (z : s.refused.number ≡ 0) (w : r.cell ≡ true) where
    placed : (b : Bool) → s.incremental ≡ b → bits_found (cell_found y s r) s.plan.bits ≡ place
    placed false k =
        rw (cell_here y s r z w k, k, same_sequence, place_standard (described_as t) _ f r.row r.position)
        (rw e (same_bits (first_is t f r l (rw e at z) (asked w) (kind k) (h z k)) (bits_is t f r l (rw e at z) (asked w) (kind k))))
    placed true k =
        rw (cell_there y s r z w k, k, same_sequence, place_there (described_as t) _ f r.row r.position)
        (rw e (same_bits (there_first t f r l (kind k) (rw e at z) (asked w)) (there_count t f r l (kind k))))

    searched : (b : Bool) → s.incremental ≡ b → looks_found (cell_found y s r) ≡ looks
    searched false k =
        rw (cell_here y s r z w k, k, same_sequence, looks_standard (described_as t) _ f r.row r.position)
        (rw e (looks_is t f r l (rw e at z) (asked w) (kind k) (h z k)))
    searched true k = rw (cell_there y s r z w k, k, looks_there (described_as t) _ f r.row r.position)

  pub answer_by : {x : Located} {a : Answer} → x ≡ cell_found y s r → a ≡ answer_with r s x → a ≡ answer_of t f q l
  unfolding answer_for
  answer_by {x} {a} i j =
      j
      ∙ ap (answer_with r s) i
      ∙ answered_same r s (λ z w. placed z (is_true r.cell w) s.incremental refl) (λ z w. searched z (is_true r.cell w) s.incremental refl)
      ∙ rw (← o, e)
