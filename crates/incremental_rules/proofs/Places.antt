-- Of every file that is accepted, whole or for a row, and every column of it that is no String: the place of the row's cell lies in
-- the data part of the bucket that the index gives to the row, off the header, the free buckets and the ISMIndex; and it is where the
-- check finds the cell.
-- Assumes nothing.
use mathlib.Core.Path.{◌≡◌, ap, ◌∙◌}
use mathlib.Core.List.{List}
use mathlib.Core.Bool.{Bool, true, false}
use Prim.Native.Nat.{ℕ, ◌+◌, ◌-◌, ◌≤◌, ◌<◌}
use native.Mathlib.Decide.{dec_lt}
use native.Mathlib.Omega.{arith}
use lib.ListN.{get_or}
use lib.Dec.{ltb, ltb→lt}
use borrow.Author.Tests.{ne_eqb, le-leb, lt-ltb}
use Rattle.bytes_at.specs.declared.Refusal.{Refusal}
use Rattle.bytes_at.proofs.Stages.{then_left, then_right, or_passed, goes, passes, Clear, clear_then, clear_blaming}
use Rattle.table_rules.specs.ColumnDesc.{no_column}
use Rattle.table_rules.specs.ColumnSet.{no_binding}
use Rattle.table_rules.specs.declared.Description.{Description}
use Rattle.standard_rules.specs.Header.{bucket_start}
use Rattle.standard_rules.specs.Place.{bucket_bits}
use Rattle.standard_rules.specs.Map.{ceil8}
use Rattle.standard_rules.specs.Demand.{Apart}
use Rattle.standard_rules.proofs.Places.{step}
use Rattle.incremental_rules.specs.declared.Header.{Header}
use Rattle.incremental_rules.specs.declared.Index.{Index}
use Rattle.incremental_rules.specs.Header.{header_at}
use Rattle.incremental_rules.specs.Place.{offset_in, entry_of, is_bound, part_at, bit_of, place_of, Safe, Kept, EveryPlace}
use Rattle.incremental_rules.proofs.Accepted.{InBucket, bucket_read, bucket_on}
use Rattle.incremental_rules.specs.declared.Cells.{Cells}
use Rattle.incremental_rules.specs.declared.Found.{Found}
use Rattle.incremental_rules.specs.Index.{first_row, bucket_number, index_of, IndexAccepted}
use Rattle.incremental_rules.specs.Bucket.{cell_bytes, cells_of, index_offset, start_bytes}
use Rattle.incremental_rules.specs.Check.{search_of, refusal_of, PartsAccepted, first_bit, told, checked_as}
use Rattle.incremental_rules.specs.OneBucket.{own_bucket, own_refusal, own_checked, refusal_by, checked_by, OwnExactly, OwnWithin, OwnPlace}
use Rattle.incremental_rules.proofs.AnyCell.{cells_same, search_same, own_refused, own_same}
use Rattle.incremental_rules.proofs.Columns.{Asked, asked_is}
use Rattle.incremental_rules.proofs.Search.{FoundIn, bucket_in, search_found, own_found}
use Rattle.incremental_rules.proofs.Exactly.{parts_read, parts_pass, accepted_exactly, refusal_clear}
use Rattle.incremental_rules.proofs.Rows.{some_entry, from_first, entry_known, entry_from, entry_to}

-- where the index is right, and the row's bucket was found and not refused
module _ (d : Description) (sequence : ℕ) (f : List ℕ) (few : d.column_count ≤ 64) (position row : ℕ)
    (known : position < d.column_count) (bound : (get_or d.bindings position no_binding).sequence ≡ sequence) (l : row < d.rows) where
  abbrev header : Header
  header = header_at f d.big

  abbrev index : Index
  index = index_of f d.big header

  abbrev cells : Cells
  cells = cells_of d sequence position

  abbrev entry : ℕ
  entry = entry_of d.big f index row

  abbrev start : ℕ
  start = bucket_start header.size (bucket_number d.big f index entry)

  -- how many bytes the starts of its bucket have
  abbrev width : ℕ
  width = start_bytes d.big f start

  abbrev offset : ℕ
  offset = offset_in d.big f width (part_at d.big f width (start + index_offset d.big f start) (is_bound d sequence) position) (row - first_row d.big f index entry)

  asked : Asked d.columns d.bindings sequence position cells
  asked = asked_is d.columns d.bindings sequence position d.column_count few known bound

  module _ (numbers : IndexAccepted d.rows d.big f header index) {found : Found}
      (here : FoundIn d.big f header.size index cells row index.count entry found) where
    in_bucket_lem : InBucket f start header.size d.big (first_row d.big f index (entry + 1) - first_row d.big f index entry) (row - first_row d.big f index entry) cells.column cells.bytes cells.count (bucket_in d.big f header.size index cells row entry).value
    in_bucket_lem = bucket_read f start header.size d.big _ (row - first_row d.big f index entry) cells.column cells.bytes cells.count here.clean

    offset_is : (bucket_in d.big f header.size index cells row entry).value ≡ offset
    offset_is =
        in_bucket_lem.value asked.known
        ∙ ap (λ (p : ℕ). offset_in d.big f width p (row - first_row d.big f index entry)) (asked.part d.big f width (start + index_offset d.big f start))

    -- the check finds the cell where its place is
    found_there : first_bit found ≡ (place_of d sequence f position row).first
    unfolding place_of bit_of
    found_there = rw (here.start, here.offset ∙ offset_is)

    offset_fits_lem : offset + cell_bytes (get_or d.columns position no_column) ≤ index_offset d.big f start - 4
    offset_fits_lem = omega (arith, in_bucket_lem.fits asked.known, offset_is, asked.bytes)

    module _ (no_string : (get_or d.columns position no_column).datatype.number ≡ 11 → ⊥) where
      bytes_are : cell_bytes (get_or d.columns position no_column) ≡ ceil8 (get_or d.columns position no_column).bits
      bytes_are = rw (ne_eqb _ _ no_string)

      off_bucket : (b : ℕ) → (bucket_number d.big f index entry ≡ b → ⊥) → Apart (place_of d sequence f position row) (bucket_bits header.size b)
      unfolding place_of bit_of
      off_bucket b n i p q r s =
          elim (dec_lt (bucket_number d.big f index entry) b) [
            | yes g ↦ omega (arith, step header.size g, offset_fits_lem, bytes_are, in_bucket_lem.accepted.high, in_bucket_lem.accepted.low)
            | no g ↦ let g' : b < bucket_number d.big f index entry = omega arith in omega (arith, step header.size g')
          ]

      safe : Safe d.big f header index (place_of d sequence f position row) row
      unfolding place_of bit_of
      safe = record {
        given = entry_known d.rows d.big f header index numbers row l;
        not_before = entry_from d.rows d.big f header index numbers row l;
        not_after = entry_to d.rows d.big f header index numbers row l;
        in_range = numbers.in_range entry (entry_known d.rows d.big f header index numbers row l);
        inside = (omega arith, omega (arith, offset_fits_lem, bytes_are));
        inside_bucket = (omega arith, omega (arith, in_bucket_lem.accepted.high, in_bucket_lem.accepted.low));
        off_header = λ i p q r s. omega arith;
        off_free = λ i k. off_bucket _ (numbers.not_free entry i (entry_known d.rows d.big f header index numbers row l) k);
        off_index = λ i p q r s.
            omega (arith, step header.size (numbers.in_range entry (entry_known d.rows d.big f header index numbers row l)), offset_fits_lem, bytes_are, in_bucket_lem.accepted.high, in_bucket_lem.accepted.low);
      }

-- ---- of the full check
module _ (d : Description) (sequence : ℕ) (f : List ℕ) (refused : Refusal) (z : (refusal_of d sequence f refused).number ≡ 0) where
  numbers : IndexAccepted d.rows d.big f (header_at f d.big) (index_of f d.big (header_at f d.big))
  numbers = ((accepted_exactly d sequence f refused).0 z).1.parts.numbers

  none_refused : (search_of d.big f (header_at f d.big).size (index_of f d.big (header_at f d.big)) (cells_of d sequence 0) 0).refused.number ≡ 0
  unfolding refusal_of
  none_refused = then_right _ _ z

  found_here : (position row : ℕ) → row < d.rows
      → FoundIn d.big f (header_at f d.big).size (index_of f d.big (header_at f d.big)) (cells_of d sequence position) row
      (index_of f d.big (header_at f d.big)).count (entry_of d.big f (index_of f d.big (header_at f d.big)) row)
      (search_of d.big f (header_at f d.big).size (index_of f d.big (header_at f d.big)) (cells_of d sequence position) row)
  found_here position row l =
      let h = header_at f d.big in
      let x = index_of f d.big h in
      search_found d.big f h.size x (cells_of d sequence position) row
      (from_first d.rows d.big f h x numbers row l)
      (some_entry d.rows d.big f h x numbers row l)
      (ap (λ (r : Refusal). r.number) (search_same d.big f h.size x (cells_of d sequence position) (cells_of d sequence 0) row 0 (cells_same d.columns d.bindings sequence position 0 d.column_count)) ∙ none_refused)

  checked_there : d.column_count ≤ 64 → (position row : ℕ) → position < d.column_count → (get_or d.bindings position no_binding).sequence ≡ sequence
      → row < d.rows → (checked_as d sequence f refused position row).first ≡ (place_of d sequence f position row).first
  unfolding checked_as told
  checked_there few position row known bound l = rw (z) (found_there d sequence f few position row known bound l numbers (found_here position row l))

pub every_place : EveryPlace
every_place d sequence f refused few z position row k l =
    safe d sequence f few position row k.known k.bound l (numbers d sequence f refused z) (found_here d sequence f refused z position row l) k.no_string

-- ---- of the check of the row's own bucket
module _ (d : Description) (sequence : ℕ) (f : List ℕ) (refused : Refusal) (row : ℕ) (z : (own_refusal d sequence f refused row).number ≡ 0) where
  own_parts : PartsAccepted d.rows d.big f (header_at f d.big) (index_of f d.big (header_at f d.big))
  unfolding own_refusal
  own_parts = (parts_read d.rows d.big f refused (then_left _ _ z)).1

  own_clean : (own_bucket d.rows d.big f (header_at f d.big).size (index_of f d.big (header_at f d.big)) (cells_of d sequence 0) row).refused.number ≡ 0
  unfolding own_refusal
  own_clean = then_right _ _ z

  pub own_below : row < d.rows
  own_below = ltb→lt _ _ (or_passed (ltb row d.rows) 8 _ (then_left _ _ (rw (own_refused d.big f _ _ d.rows (cells_of d sequence 0) row) at own_clean)))

  own_here : (position : ℕ)
      → FoundIn d.big f (header_at f d.big).size (index_of f d.big (header_at f d.big)) (cells_of d sequence position) row
      (index_of f d.big (header_at f d.big)).count (entry_of d.big f (index_of f d.big (header_at f d.big)) row)
      (own_bucket d.rows d.big f (header_at f d.big).size (index_of f d.big (header_at f d.big)) (cells_of d sequence position) row)
  own_here position =
      let h = header_at f d.big in
      let x = index_of f d.big h in
      own_found d.big f h.size x (cells_of d sequence position) row d.rows
      (le-leb _ row (entry_from d.rows d.big f h x own_parts.numbers row own_below))
      (ap (λ (r : Refusal). r.number) (own_same d.big f h.size x d.rows (cells_of d sequence position) (cells_of d sequence 0) row (cells_same d.columns d.bindings sequence position 0 d.column_count)) ∙ own_clean)

  own_there : d.column_count ≤ 64 → (position : ℕ) → position < d.column_count → (get_or d.bindings position no_binding).sequence ≡ sequence
      → (own_checked d sequence f refused position row).first ≡ (place_of d sequence f position row).first
  unfolding own_checked told
  own_there few position known bound = rw (z) (found_there d sequence f few position row known bound own_below own_parts.numbers (own_here position))

pub own_place : OwnPlace
own_place d sequence f refused position row few z k =
    safe d sequence f few position row k.known k.bound (own_below d sequence f refused row z) (own_parts d sequence f refused row z).numbers (own_here d sequence f refused row z position) k.no_string

-- Nothing refuses exactly when the parts, the row and its bucket are accepted.
pub own_exactly : OwnExactly
unfolding own_refusal
own_exactly d sequence f refused row = (
  λ z. (
    (parts_read d.rows d.big f refused (then_left _ _ z)).0,
    record {
      parts = own_parts d sequence f refused row z;
      below = own_below d sequence f refused row z;
      bucket = (bucket_read f _ _ _ _ _ _ _ _ (own_here d sequence f refused row z 0).clean).accepted;
    },
  ),
  λ v.
      ap (λ (r : Refusal). r.number) (
      goes _ _ (parts_pass d.rows d.big f refused v.0 v.1.parts)
      ∙ own_refused d.big f _ _ d.rows (cells_of d sequence 0) row
      ∙ goes _ _ (passes _ 9 _ (lt-ltb _ _ v.1.below)))
      ∙ bucket_on f _ _ _ _ _ _ _ _ v.1.bucket,
)

pub own_within : OwnWithin
own_within d sequence f refused row l z =
    let a = (accepted_exactly d sequence f refused).0 z in
    (own_exactly d sequence f refused row).1 (
      a.0,
      record {
        parts = a.1.parts;
        below = l;
        bucket = a.1.buckets _ (entry_known d.rows d.big f _ _ a.1.parts.numbers row l);
      },
    )

-- ---- of either check
pub own_clear : (d : Description) (sequence : ℕ) (f : List ℕ) (refused : Refusal) (row : ℕ) → Clear (own_refusal d sequence f refused row)
unfolding own_refusal
own_clear d sequence f refused row =
    clear_then _ _ (rw (own_refused d.big f _ _ d.rows (cells_of d sequence 0) row) (clear_then _ _ (clear_blaming _ _)))

module _ (d : Description) (sequence : ℕ) (f : List ℕ) (refused : Refusal) (row : ℕ) where
  pub by_clear : (own : Bool) → Clear (refusal_by own d sequence f refused row)
  unfolding refusal_by
  by_clear true = own_clear d sequence f refused row
  by_clear false = refusal_clear d sequence f refused

  pub by_parts : (own : Bool) → (refusal_by own d sequence f refused row).number ≡ 0 → (refused.number ≡ 0) × PartsAccepted d.rows d.big f (header_at f d.big) (index_of f d.big (header_at f d.big))
  unfolding refusal_by
  by_parts true z = let v = (own_exactly d sequence f refused row).0 z in (v.0, v.1.parts)
  by_parts false z = let v = (accepted_exactly d sequence f refused).0 z in (v.0, v.1.parts)

  module _ (few : d.column_count ≤ 64) (position : ℕ) (l : row < d.rows) where
    pub by_there : (own : Bool) → (refusal_by own d sequence f refused row).number ≡ 0 → position < d.column_count
        → (get_or d.bindings position no_binding).sequence ≡ sequence
        → (checked_by own d sequence f refused position row).first ≡ (place_of d sequence f position row).first
    unfolding refusal_by checked_by
    by_there true z known bound = own_there d sequence f refused row z few position known bound
    by_there false z known bound = checked_there d sequence f refused z few position row known bound l

    pub by_place : (own : Bool) → (refusal_by own d sequence f refused row).number ≡ 0 → Kept d sequence position
        → Safe d.big f (header_at f d.big) (index_of f d.big (header_at f d.big)) (place_of d sequence f position row) row
    unfolding refusal_by
    by_place true z k = own_place d sequence f refused position row few z k
    by_place false z k = every_place d sequence f refused few z position row k l
