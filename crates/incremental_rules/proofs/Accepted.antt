-- A bucket is not refused exactly when it meets the sentences on buckets; and the offset that its check then gives is the one that the
-- numbers of its index part name.
--     -read      what an unrefused cursor says
--     -on        what says that the cursor is not refused
--     -from      what follows in both cases
-- Assumes nothing.
use mathlib.Core.Path.{◌≡◌, refl, sym, ap, ◌∙◌}
use mathlib.Core.List.{List}
use mathlib.Core.Bool.{Bool, true, cond, ◌&&◌}
use Prim.Native.Nat.{ℕ, zero, suc, ◌+◌, ◌-◌, ◌≤◌, ◌<◌, zero-le}
use native.Mathlib.Decide.{ℕ_discrete}
use native.Mathlib.Nat.{not-suc-le-zero}
use native.Mathlib.Numerals.{add-one}
use native.Mathlib.Omega.{arith}
use lib.ListN.{get_or}
use lib.Dec.{leb, ltb, eqb}
use borrow.Author.Tests.{ltb-true, eq-eqb, ne_eqb, le-leb, lt-ltb}
use Rattle.bytes_at.specs.Number.{uint_of}
use Rattle.bytes_at.specs.Steps.{after, ◌>>=◌}
use Rattle.aipsio_rules.specs.declared.Cursor.{Cursor}
use Rattle.aipsio_rules.specs.declared.Value.{Value}
use Rattle.aipsio_rules.specs.Field.{moved_to, left_in, skipped, judged, sized_at, uint_at}
use Rattle.aipsio_rules.proofs.Kept.{Clean, clean_before, uint_reads, judged_keeps, skipped_keeps, ◌⨟◌}
use Rattle.aipsio_rules.proofs.Sides.{judge_on, skip_on}
use Rattle.aipsio_rules.proofs.Accepted.{judged_passed, judged_within, sized_fits, uint_is}
use Rattle.incremental_rules.specs.declared.Starts.{Starts}
use Rattle.incremental_rules.specs.Bucket.{start_fits, starts_at, offsets_at, bucket_head_at, is_wide, low_bytes, column_part_at, column_part_into, column_parts_at, bucket_at, index_offset, start_bytes, values_in, start_in, offset_of_value, past_part, part_of, PartAccepted, BucketAccepted}
use Rattle.incremental_rules.specs.Place.{value_in, offset_in}
use Rattle.incremental_rules.proofs.Turns.{same, begun_on, begun_next}
use Rattle.incremental_rules.proofs.Last.{last_below_lem}
use Rattle.incremental_rules.proofs.Values.{fits_below, fits_first, fits_rise, first_fits, later_fits, before, past, number_is, Judged, judged_on, judged_read, starts_from, starts_clean, StartsRead, starts_read, starts_on, offsets_from, offsets_clean, OffsetsRead, offsets_read, offsets_on}

module _ (s : List ℕ) (big : Bool) where
  -- ---- a column's part
  module _ (width limit rows row bytes : ℕ) where
    -- its starts and its offsets, past the number of values
    abbrev starts_of : Cursor → Starts
    starts_of c = starts_from s width rows row (moved_to c (c.at + 4)) (values_in big s c.at)

    abbrev offsets_of : Cursor → Cursor → Value
    offsets_of c d = offsets_from s limit bytes (starts_of c).hit d (values_in big s c.at)

    abbrev some : ℕ → Bool
    some x = ltb 0 x

    column_clean : (c : Cursor) → Clean (column_part_at s c width limit rows row bytes).next → Clean c
    unfolding column_part_at starts_at offsets_at ◌>>=◌
    column_clean c e =
        clean_before ((uint_reads s c).keeps ⨟ judged_keeps _ _ _ 11) (starts_clean s width rows row _ _ (offsets_clean s limit bytes _ _ _ e))

    column_judged : (c : Cursor) → c.big ≡ big → Clean (column_part_at s c width limit rows row bytes).next → Judged s big 4 c some
    unfolding column_part_at starts_at offsets_at uint_at sized_at ◌>>=◌
    column_judged c o e = judged_read s big 4 c some o (starts_clean s width rows row _ _ (offsets_clean s limit bytes _ _ _ e))

    column_is : (c : Cursor) → Judged s big 4 c some → column_part_at s c width limit rows row bytes ≡ offsets_of c (starts_of c).next
    unfolding column_part_at starts_at offsets_at uint_at sized_at ◌>>=◌
    column_is c j = rw (j.next, j.value)

    record ColumnRead (c : Cursor) (r : Value) : Type 0 where
      next : r.next ≡ moved_to c (past_part big s width c.at)
      accepted : PartAccepted big s width c.at c.end limit rows bytes
      known : value_in big s width c.at row < values_in big s c.at
      value : r.value ≡ offset_in big s width c.at row

    -- the cursor past the starts
    abbrev past_starts : Cursor → Cursor
    past_starts c = past width (moved_to c (c.at + 4)) (values_in big s c.at)

    column_from_lem : (c : Cursor) (r : Value) → Judged s big 4 c some
        → StartsRead s big width rows row (moved_to c (c.at + 4)) (values_in big s c.at) (starts_of c)
        → OffsetsRead s big limit bytes (starts_of c).hit (past_starts c) (values_in big s c.at) r → ColumnRead c r
    column_from_lem c r j a b =
        let n = values_in big s c.at in
        let k : 0 < n = ltb-true 0 n j.passed in
        let z : start_in big s width c.at 0 ≡ 0 = fits_first 0 _ rows (a.fits 0 k) in
        let l : value_in big s width c.at row < n = last_below_lem _ n k (le-leb _ row (rw z zero-le)) in
        record {
          next = b.next;
          accepted = record {
            some = k;
            from_zero = z;
            rise = λ i g. rw add-one (fits_rise _ _ rows i (a.fits (suc i) (omega arith)));
            below = λ i g. fits_below _ _ rows i (a.fits i g);
            fits = b.fits;
            inside = omega (arith, b.room);
          };
          known = l;
          value = b.value (rw a.hit l) ∙ ap (offset_of_value big s width c.at) a.hit;
        }

    column_read : (c : Cursor) → c.big ≡ big → Clean (column_part_at s c width limit rows row bytes).next
        → ColumnRead c (column_part_at s c width limit rows row bytes)
    column_read c o e =
        let n = values_in big s c.at in
        let j = column_judged c o e in
        let hs : Clean (starts_of c).next = offsets_clean s limit bytes (starts_of c).hit (starts_of c).next n (rw (column_is c j) at e) in
        let a = starts_read s big width rows row (moved_to c (c.at + 4)) n o hs in
        let q : column_part_at s c width limit rows row bytes ≡ offsets_of c (past_starts c) = column_is c j ∙ ap (offsets_of c) a.next in
        rw q (column_from_lem c _ j a (offsets_read s big limit bytes (starts_of c).hit (past_starts c) n o (rw q at e)))

    column_on : (c : Cursor) → c.big ≡ big → Clean c → PartAccepted big s width c.at c.end limit rows bytes
        → ColumnRead c (column_part_at s c width limit rows row bytes)
    column_on c o h p =
        let n = values_in big s c.at in
        let j = judged_on s big 4 c some o h (omega (arith, p.inside)) (lt-ltb 0 n p.some) in
        let a = starts_on s big width rows row (moved_to c (c.at + 4)) n o refl (omega (arith, p.inside)) fit in
        let q : column_part_at s c width limit rows row bytes ≡ offsets_of c (past_starts c) = column_is c j ∙ ap (offsets_of c) a.next in
        let b = offsets_on s big limit bytes (starts_of c).hit (past_starts c) n o refl (omega (arith, p.inside)) p.fits in
        rw q (column_from_lem c _ j a b)
      where
        fit : (i : ℕ) → i < values_in big s c.at → start_fits i (before (start_in big s width c.at) i) (start_in big s width c.at i) rows ≡ true
        fit zero l = first_fits 0 _ rows (p.below 0 l) p.from_zero
        fit (suc i) l = later_fits _ _ rows i (p.below (suc i) l) (rw add-one at (p.rise i (omega arith)))

  -- ---- the columns in turn
  module _ (width limit rows row column : ℕ) (bytes : List ℕ) where
    abbrev columns_from : Cursor → ℕ → Value
    columns_from c n = after (column_part_into s width limit rows row column bytes) (record { value = 0; next = c }) n

    abbrev Part : Cursor → ℕ → Type 0
    Part c k = PartAccepted big s width (part_of big s width c.at k) c.end limit rows (get_or bytes k 0)

    record ColumnsRead (c : Cursor) (n : ℕ) (st : Value) : Type 0 where
      next : st.next ≡ moved_to c (part_of big s width c.at n)
      accepted : (k : ℕ) → k < n → Part c k
      known : column < n → value_in big s width (part_of big s width c.at column) row < values_in big s (part_of big s width c.at column)
      value : column < n → st.value ≡ offset_in big s width (part_of big s width c.at column) row

    columns_none : (c : Cursor) → Clean c → ColumnsRead c 0 (record { value = 0; next = c })
    unfolding part_of
    columns_none c h = record {
      next = sym (same c h);
      accepted = λ k l. absurd (not-suc-le-zero l);
      known = λ l. absurd (not-suc-le-zero l);
      value = λ l. absurd (not-suc-le-zero l);
    }

    columns_from_lem : (c : Cursor) (n : ℕ) (st one : Value) → ColumnsRead c n st
        → ColumnRead width limit rows row (get_or bytes n 0) (moved_to c (part_of big s width c.at n)) one
        → ColumnsRead c (suc n) (record { value = cond (eqb n column) one.value st.value; next = one.next })
    unfolding part_of
    columns_from_lem c n st one v r = record {
      next = r.next;
      accepted = λ k l. elim (ℕ_discrete k n) [
        | yes q ↦ rw q r.accepted
        | no q ↦ v.accepted k (omega arith)
      ];
      known = λ l. elim (ℕ_discrete n column) [
        | yes q ↦ rw (← q) r.known
        | no q ↦ v.known (omega arith)
      ];
      value = λ l. elim (ℕ_discrete n column) [
        | yes q ↦ rw (eq-eqb n column q, ← q) r.value
        | no q ↦ rw (ne_eqb n column q) (v.value (omega arith))
      ];
    }

    columns_clean : (c : Cursor) (n : ℕ) → Clean (columns_from c n).next → Clean c
    unfolding after column_part_into ◌>>=◌
    columns_clean c zero e = e
    columns_clean c (suc n) e = columns_clean c n (column_clean width limit rows row _ _ e)

    columns_read_lem : (c : Cursor) (n : ℕ) → c.big ≡ big → Clean (columns_from c n).next → ColumnsRead c n (columns_from c n)
    unfolding after column_part_into ◌>>=◌
    columns_read_lem c zero o e = columns_none c e
    columns_read_lem c (suc n) o e =
        let st = columns_from c n in
        let v = columns_read_lem c n o (column_clean width limit rows row (get_or bytes n 0) st.next e) in
        let d = moved_to c (part_of big s width c.at n) in
        rw v.next (columns_from_lem c n st _ v (column_read width limit rows row (get_or bytes n 0) d o (rw v.next at e)))

    columns_on : (c : Cursor) (n : ℕ) → c.big ≡ big → Clean c → ((k : ℕ) → k < n → Part c k) → ColumnsRead c n (columns_from c n)
    unfolding after column_part_into ◌>>=◌
    columns_on c zero o h p = columns_none c h
    columns_on c (suc n) o h p =
        let st = columns_from c n in
        let v = columns_on c n o h (λ k l. p k (omega arith)) in
        let d = moved_to c (part_of big s width c.at n) in
        rw v.next (columns_from_lem c n st _ v (column_on width limit rows row (get_or bytes n 0) d o refl (p n (omega arith))))

  -- ---- the index offset
  record HeadRead (c : Cursor) (size : ℕ) : Type 0 where
    low : 4 ≤ index_offset big s c.at
    high : index_offset big s c.at ≤ size

  head_on : (c : Cursor) (size : ℕ) → c.big ≡ big → Clean c → size ≤ left_in c → HeadRead c size
      → bucket_head_at s c size ≡ record {
        wide = is_wide (uint_of big 4 s c.at);
        len = index_offset big s c.at - 4;
        next = moved_to c (c.at + index_offset big s c.at);
      }
  unfolding bucket_head_at ◌>>=◌
  head_on c size o h l r =
      let x = index_offset big s c.at in
      let d = moved_to c (c.at + 4) in
      let p : d.at + (x - 4) ≡ c.at + x = omega (arith, r.low) in
      let w : judged d c.at (leb 4 x && leb x size) 11 ≡ d = sym (judge_on d refl c.at _ 11 (rw (le-leb 4 x r.low, le-leb x size r.high))) in
      let n : skipped d (x - 4) ≡ moved_to d (d.at + (x - 4)) = sym (skip_on d refl refl (x - 4) (omega (arith, r.low, r.high))) in
      rw (uint_is s c ∙ number_is s big 4 c o h (omega (arith, r.low, r.high)), w, n, p) (begun_on (moved_to c (c.at + x)) _ (x - 4) refl)

  head_read : (c : Cursor) (size : ℕ) → c.big ≡ big → Clean (bucket_head_at s c size).next → HeadRead c size
  unfolding bucket_head_at ◌>>=◌
  head_read c size o e =
      let word = uint_at s c in
      let x = low_bytes word.value in
      let hg = clean_before (skipped_keeps (judged word.next c.at (leb 4 x && leb x size) 11) (x - 4)) (rw begun_next at e) in
      let u = sized_fits s c 4 (rw (uint_is s c) at (judged_passed word.next c.at _ 10 hg).0) in
      let v : word.value ≡ uint_of big 4 s c.at = ap (λ (y : Value). y.value) (uint_is s c ∙ number_is s big 4 c o u.0 u.1) in
      let w = judged_within word.next c.at x 4 size 10 hg in
      record { low = rw v at w.0; high = rw v at w.1 }

-- ---- the bucket at a place
module _ (f : List ℕ) (at size : ℕ) (big : Bool) (rows row column : ℕ) (bytes : List ℕ) (n : ℕ) where
  abbrev cursor : Cursor
  cursor = record { at = at; end = at + size; big = big; refused = 0 }

  abbrev x : ℕ
  x = index_offset big f at

  abbrev each : ℕ
  each = start_bytes big f at

  bucket_is : HeadRead f big cursor size
      → bucket_at f at size big rows row column bytes n ≡ columns_from f big each (x - 4) rows row column bytes (moved_to cursor (at + x)) n
  unfolding bucket_at column_parts_at ◌>>=◌
  bucket_is r = rw (head_on f big cursor size refl refl (omega arith) r)

  -- It meets the sentences, and the value that the row has in the column is the one that its numbers name.
  pub record InBucket (offset : ℕ) : Type 0 where
    pub accepted : BucketAccepted f at size big rows bytes n
    pub value : column < n → offset ≡ offset_in big f each (part_of big f each (at + x) column) row
    pub fits : column < n → offset + get_or bytes column 0 ≤ x - 4

  head_accepted : Clean (bucket_at f at size big rows row column bytes n).next → HeadRead f big cursor size
  unfolding bucket_at column_parts_at ◌>>=◌
  head_accepted e = head_read f big cursor size refl (columns_clean f big _ _ rows row column bytes _ n e)

  pub bucket_read : Clean (bucket_at f at size big rows row column bytes n).next
      → InBucket (bucket_at f at size big rows row column bytes n).value
  bucket_read e =
      let d = head_accepted e in
      let r = columns_read_lem f big each (x - 4) rows row column bytes (moved_to cursor (at + x)) n refl (rw (bucket_is d) at e) in
      rw (bucket_is d) (record {
        accepted = record { low = d.low; high = d.high; columns = r.accepted };
        value = r.value;
        fits = λ l. rw (r.value l) ((r.accepted column l).fits _ (r.known l));
      })

  pub bucket_on : BucketAccepted f at size big rows bytes n → Clean (bucket_at f at size big rows row column bytes n).next
  bucket_on a =
      let d : HeadRead f big cursor size = record { low = a.low; high = a.high } in
      let r = columns_on f big each (x - 4) rows row column bytes (moved_to cursor (at + x)) n refl refl a.columns in
      rw (bucket_is d) (ap (λ (c : Cursor). c.refused) r.next)
