-- A file is not refused exactly when it is accepted: each stage passes exactly when its facts hold; and then no byte is told.
-- Assumes nothing.
use mathlib.Core.Path.{◌≡◌, refl, ap, ◌∙◌}
use mathlib.Core.List.{List}
use mathlib.Core.Bool.{Bool}
use Prim.Native.Nat.{ℕ, zero, suc, ◌≤◌, ◌<◌, zero-le}
use native.Mathlib.Decide.{ℕ_discrete}
use native.Mathlib.Nat.{not-suc-le-zero}
use native.Mathlib.Omega.{arith}
use lib.ListN.{length}
use lib.Dec.{leb→le, le→leb}
use borrow.Author.Tests.{eq-eqb, ne_eqb}
use Rattle.bytes_at.specs.Steps.{after, ◌>>=◌}
use Rattle.bytes_at.proofs.Tests.{is_true}
use Rattle.bytes_at.specs.declared.Refusal.{Refusal}
use Rattle.bytes_at.proofs.Stages.{then_left, then_right, or_passed, goes, passes, Clear, clear_then, clear_blaming}
use Rattle.aipsio_rules.specs.declared.Cursor.{Cursor}
use Rattle.aipsio_rules.proofs.Bounds.{ranged_le}
use Rattle.table_rules.specs.declared.Description.{Description}
use Rattle.standard_rules.specs.Check.{long_enough}
use Rattle.incremental_rules.specs.declared.HeaderFields.{HeaderFields}
use Rattle.incremental_rules.specs.declared.Header.{Header}
use Rattle.incremental_rules.specs.declared.Index.{Index}
use Rattle.incremental_rules.specs.declared.Cells.{Cells}
use Rattle.incremental_rules.specs.Header.{fields_at, headed, header_at}
use Rattle.incremental_rules.specs.Index.{index_of}
use Rattle.incremental_rules.specs.Bucket.{cells_of}
use Rattle.incremental_rules.specs.Check.{bucket_into, nothing, search_of, before_buckets, refusal_of, PartsAccepted, Accepted, AcceptedExactly}
use Rattle.incremental_rules.proofs.Accepted.{bucket_read, bucket_on}
use Rattle.incremental_rules.proofs.AnyCell.{turn_refused}
use Rattle.incremental_rules.proofs.Search.{bucket_in}
use Rattle.incremental_rules.proofs.Numbers.{index_read, index_passes}

-- ---- no header states more than 4,096 buckets
fields_few : (s : List ℕ) (c : Cursor) → (fields_at s c).count ≤ 4096
unfolding fields_at ◌>>=◌
fields_few s c = ranged_le s _ 4 0 4096 3

headed_few : (c : Cursor) (h : HeaderFields) → h.count ≤ 4096 → (headed c h).count ≤ 4096
unfolding headed
headed_few c h l = elim (ℕ_discrete c.refused 0) [ yes e ↦ rw (eq-eqb c.refused 0 e) l | no e ↦ rw (ne_eqb c.refused 0 e) zero-le ]

header_few : (f : List ℕ) (big : Bool) → (header_at f big).count ≤ 4096
unfolding header_at ◌>>=◌
header_few f big = headed_few _ _ (fields_few f _)

-- ---- the buckets are not refused exactly when none of them is
module _ (big : Bool) (f : List ℕ) (size : ℕ) (x : Index) (cells : Cells) (row : ℕ) where
  each_clean : (n : ℕ) → (after (bucket_into big f size x cells row) nothing n).refused.number ≡ 0
      → (i : ℕ) → i < n → (bucket_in big f size x cells row i).next.refused ≡ 0
  unfolding after
  each_clean zero e i l = absurd (not-suc-le-zero l)
  each_clean (suc n) e i l =
      let t = rw (turn_refused big f size x cells row _ n) at e in
      elim (ℕ_discrete i n) [ yes q ↦ rw q (then_right _ _ t) | no q ↦ each_clean n (then_left _ _ t) i (omega arith) ]

  all_clean : (n : ℕ) → ((i : ℕ) → i < n → (bucket_in big f size x cells row i).next.refused ≡ 0)
      → (after (bucket_into big f size x cells row) nothing n).refused.number ≡ 0
  unfolding after
  all_clean zero h = refl
  all_clean (suc n) h =
      ap (λ (r : Refusal). r.number) (turn_refused big f size x cells row _ n ∙ goes _ _ (all_clean n (λ i l. h i (omega arith)))) ∙ h n (omega arith)

-- ---- the parts before the buckets
module _ (rows : ℕ) (big : Bool) (f : List ℕ) (refused : Refusal) where
  abbrev parts_header : Header
  parts_header = header_at f big

  abbrev parts_index : Index
  parts_index = index_of f big parts_header

  pub parts_read : (before_buckets rows big f refused).number ≡ 0 → (refused.number ≡ 0) × PartsAccepted rows big f parts_header parts_index
  unfolding before_buckets
  parts_read z =
      let a = then_right _ _ z in
      let b = then_right _ _ a in
      let c = then_right _ _ b in
      let e = then_right _ _ c in (
        then_left _ _ z,
        record {
          header = then_left _ _ a;
          long = leb→le _ _ (or_passed (long_enough (length f) parts_header.size parts_header.count) 0 _ (then_left _ _ b));
          index = then_left _ _ c;
          free = or_passed _ 9 _ (then_left _ _ e);
          numbers = index_read rows big f parts_header parts_index (or_passed _ 10 _ (then_right _ _ e));
        },
      )

  pub parts_pass : refused.number ≡ 0 → PartsAccepted rows big f parts_header parts_index → (before_buckets rows big f refused).number ≡ 0
  unfolding before_buckets
  parts_pass h a =
      ap (λ (r : Refusal). r.number) (
      goes _ _ h
      ∙ goes _ _ a.header
      ∙ goes _ _ (passes _ 1 _ (is_true _ (le→leb _ _ a.long)))
      ∙ goes _ _ a.index
      ∙ goes _ _ (passes _ 10 _ (is_true _ a.free)))
      ∙ passes _ 11 _ (is_true _ (index_passes rows big f parts_header parts_index a.numbers (header_few f big) a.free))

-- ---- the stages
module _ (d : Description) (sequence : ℕ) (f : List ℕ) (refused : Refusal) where
  abbrev header : Header
  header = header_at f d.big

  abbrev index : Index
  index = index_of f d.big header

  abbrev cells : Cells
  cells = cells_of d sequence 0

  accepted : (refusal_of d sequence f refused).number ≡ 0 → (refused.number ≡ 0) × Accepted d sequence f
  unfolding refusal_of search_of
  accepted z =
      let p = parts_read d.rows d.big f refused (then_left _ _ z) in
      let clean = each_clean d.big f header.size index cells 0 index.count (then_right _ _ z) in
      (p.0, record { parts = p.1; buckets = λ i l. (bucket_read f _ _ _ _ _ _ _ _ (clean i l)).accepted })

  not_refused : (refused.number ≡ 0) × Accepted d sequence f → (refusal_of d sequence f refused).number ≡ 0
  unfolding refusal_of search_of
  not_refused v =
      ap (λ (r : Refusal). r.number) (goes _ _ (parts_pass d.rows d.big f refused v.0 v.1.parts))
      ∙ all_clean d.big f header.size index cells 0 index.count (λ i l. bucket_on f _ _ _ _ _ _ _ _ (v.1.buckets i l))

pub accepted_exactly : AcceptedExactly
accepted_exactly d sequence f refused = (accepted d sequence f refused, not_refused d sequence f refused)

-- ---- where nothing is refused, no byte is told
module _ (big : Bool) (f : List ℕ) (size : ℕ) (x : Index) (cells : Cells) (row : ℕ) where
  turns_clear : (n : ℕ) → Clear (after (bucket_into big f size x cells row) nothing n).refused
  unfolding after
  turns_clear zero = λ z. refl
  turns_clear (suc n) = rw (turn_refused big f size x cells row (after (bucket_into big f size x cells row) nothing n) n) (clear_then _ _ (clear_blaming _ _))

  search_clear : Clear (search_of big f size x cells row).refused
  unfolding search_of
  search_clear = turns_clear x.count

pub refusal_clear : (d : Description) (sequence : ℕ) (f : List ℕ) (refused : Refusal) → Clear (refusal_of d sequence f refused)
unfolding refusal_of
refusal_clear d sequence f refused = clear_then _ _ (search_clear _ _ _ _ _ _)
