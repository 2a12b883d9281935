-- The numbers of a column's part, one after another: its starts and its offsets are not refused exactly when each lies in the bucket and
-- fits.
--     -read      what an unrefused cursor says
--     -on        what says that the cursor is not refused
--     -from      what follows in both cases
-- Assumes nothing.
use mathlib.Core.Path.{◌≡◌, refl, sym, ap, ◌∙◌}
use mathlib.Core.List.{List}
use mathlib.Core.Bool.{Bool, true, false, cond, false≢true}
use Prim.Native.Nat.{ℕ, zero, suc, ◌+◌, ◌*◌, ◌≤◌, ◌<◌}
use native.Mathlib.Decide.{ℕ_discrete}
use native.Mathlib.Nat.{not-suc-le-zero, suc-mul}
use native.Mathlib.Omega.{arith}
use lib.Dec.{leb, eqb}
use borrow.Author.Tests.{leb-true, leb-false, ltb-true, eqb-true, eq-eqb, ne_eqb, le-leb, lt-leb, lt-ltb}
use Rattle.bytes_at.specs.Number.{uint_of}
use Rattle.bytes_at.specs.Steps.{after, ◌>>=◌}
use Rattle.aipsio_rules.specs.declared.Cursor.{Cursor}
use Rattle.aipsio_rules.specs.declared.Value.{Value}
use Rattle.aipsio_rules.specs.Field.{moved_to, left_in, judged, settled, sized_at, uint_at}
use Rattle.aipsio_rules.proofs.Kept.{Clean, clean_before, sized_reads, uint_reads, judged_keeps, ◌⨟◌}
use Rattle.aipsio_rules.proofs.Sides.{judge_on}
use Rattle.aipsio_rules.proofs.Ways.{sized_on}
use Rattle.aipsio_rules.proofs.Accepted.{judged_passed, sized_fits}
use Rattle.incremental_rules.specs.declared.Starts.{Starts}
use Rattle.incremental_rules.specs.Bucket.{start_fits, started, start_into, offset_into}
use Rattle.bytes_at.specs.Lists.{last_below}
use Rattle.incremental_rules.proofs.Turns.{same, started_on, started_off}

-- ---- a start that fits
module _ (last v rows : ℕ) where
  pub fits_below : (i : ℕ) → start_fits i last v rows ≡ true → v < rows
  unfolding start_fits
  fits_below i e = go (leb rows v) refl
    where
      go : (b : Bool) → leb rows v ≡ b → v < rows
      go true q = absurd (false≢true (rw q at e))
      go false q = leb-false rows v q

  pub fits_first : start_fits 0 last v rows ≡ true → v ≡ 0
  unfolding start_fits
  fits_first e = eqb-true v 0 (rw (lt-leb rows v (fits_below 0 e)) at e)

  pub fits_rise : (i : ℕ) → start_fits (suc i) last v rows ≡ true → last < v
  unfolding start_fits
  fits_rise i e = ltb-true last v (rw (lt-leb rows v (fits_below (suc i) e), ne_eqb (suc i) 0 (λ z. omega arith)) at e)

  pub first_fits : v < rows → v ≡ 0 → start_fits 0 last v rows ≡ true
  unfolding start_fits
  first_fits l z = rw (lt-leb rows v l, eq-eqb v 0 z)

  pub later_fits : (i : ℕ) → v < rows → last < v → start_fits (suc i) last v rows ≡ true
  unfolding start_fits
  later_fits i l g = rw (lt-leb rows v l, ne_eqb (suc i) 0 (λ z. omega arith), lt-ltb last v g)

-- the number before number i, 0 before the first
abbrev pub before : (ℕ → ℕ) → ℕ → ℕ
before g zero = 0
before g (suc i) = g i

pub started_next : (c : Cursor) (last hit : ℕ) → (started c last hit).next ≡ c
started_next c last hit =
    elim (ℕ_discrete c.refused 0) [
      | yes h ↦ rw (← (started_on c last hit h))
      | no h ↦ rw (← (started_off c last hit h))
    ]

-- ---- the cursor past n numbers of so many bytes
module _ (w : ℕ) where
  abbrev pub past : Cursor → ℕ → Cursor
  past c n = moved_to c (c.at + n * w)

  past_none : (c : Cursor) → Clean c → c ≡ past c 0
  past_none c h = let z : c.at ≡ c.at + 0 * w = omega arith in sym (same c h) ∙ ap (moved_to c) z

  past_more : (c d : Cursor) (n : ℕ) → d ≡ past c n → moved_to d (d.at + w) ≡ past c (suc n)
  past_more c d n e =
      let z : c.at + n * w + w ≡ c.at + suc n * w = omega (arith, suc-mul n w) in
      ap (λ (x : Cursor). moved_to x (x.at + w)) e ∙ ap (moved_to c) z

  past_room : (c d : Cursor) (n : ℕ) → d ≡ past c n → n * w ≤ left_in c → w ≤ left_in d → suc n * w ≤ left_in c
  past_room c d n e r l = omega (arith, suc-mul n w, ap (λ (x : Cursor). x.at) e, ap (λ (x : Cursor). x.end) e)

  room_past : (c d : Cursor) (n : ℕ) → d ≡ past c n → suc n * w ≤ left_in c → w ≤ left_in d
  room_past c d n e l = omega (arith, suc-mul n w, ap (λ (x : Cursor). x.at) e, ap (λ (x : Cursor). x.end) e)

module _ (s : List ℕ) where
  -- ---- n starts and n offsets from a cursor on: one that is refused stays so
  module _ (width rows row : ℕ) where
    abbrev pub starts_from : Cursor → ℕ → Starts
    starts_from c n = after (start_into s width rows row) (record { last = 0; hit = 0; next = c }) n

    start_clean : (st : Starts) (i : ℕ) → Clean (start_into s width rows row st i).next → Clean st.next
    unfolding start_into ◌>>=◌
    start_clean st i e = clean_before ((sized_reads s st.next width).keeps ⨟ judged_keeps _ _ _ 11) (rw started_next at e)

    pub starts_clean : (c : Cursor) (n : ℕ) → Clean (starts_from c n).next → Clean c
    unfolding after
    starts_clean c zero e = e
    starts_clean c (suc n) e = starts_clean c n (start_clean _ n e)

  module _ (limit bytes hit : ℕ) where
    abbrev pub offsets_from : Cursor → ℕ → Value
    offsets_from c n = after (offset_into s limit bytes hit) (record { value = 0; next = c }) n

    offset_clean : (st : Value) (i : ℕ) → Clean (offset_into s limit bytes hit st i).next → Clean st.next
    unfolding offset_into settled ◌>>=◌
    offset_clean st i e = clean_before ((uint_reads s st.next).keeps ⨟ judged_keeps _ _ _ 11) e

    pub offsets_clean : (c : Cursor) (n : ℕ) → Clean (offsets_from c n).next → Clean c
    unfolding after
    offsets_clean c zero e = e
    offsets_clean c (suc n) e = offsets_clean c n (offset_clean _ n e)

module _ (s : List ℕ) (big : Bool) where
  -- number i of those from a cursor on, of so many bytes
  abbrev number_of : ℕ → Cursor → ℕ → ℕ
  number_of w c i = uint_of big w s (c.at + i * w)

  -- ---- a number of so many bytes
  module _ (w : ℕ) where
    pub number_is : (c : Cursor) → c.big ≡ big → Clean c → w ≤ left_in c
        → sized_at s c w ≡ record { value = uint_of big w s c.at; next = moved_to c (c.at + w) }
    number_is c o h l = sym (sized_on s c h refl refl l (ap (λ (b : Bool). uint_of b w s c.at) (sym o)))

    -- one that is judged: it is there, and passed the test
    pub record Judged (c : Cursor) (test : ℕ → Bool) : Type 0 where
      pub clean : Clean c
      pub room : w ≤ left_in c
      pub value : (sized_at s c w).value ≡ uint_of big w s c.at
      pub next : judged (sized_at s c w).next c.at (test (sized_at s c w).value) 11 ≡ moved_to c (c.at + w)
      pub passed : test (uint_of big w s c.at) ≡ true

    pub judged_on : (c : Cursor) (test : ℕ → Bool) → c.big ≡ big → Clean c → w ≤ left_in c
        → test (uint_of big w s c.at) ≡ true → Judged c test
    judged_on c test o h l p =
        let u = number_is c o h l in
        record {
          clean = h;
          room = l;
          value = ap (λ (x : Value). x.value) u;
          next = rw u (sym (judge_on (moved_to c (c.at + w)) refl c.at (test (uint_of big w s c.at)) 11 p));
          passed = p;
        }

    pub judged_read : (c : Cursor) (test : ℕ → Bool) → c.big ≡ big
        → Clean (judged (sized_at s c w).next c.at (test (sized_at s c w).value) 11) → Judged c test
    judged_read c test o e =
        let p = judged_passed (sized_at s c w).next c.at (test (sized_at s c w).value) 10 e in
        let r = sized_fits s c w p.0 in
        judged_on c test o r.0 r.1 (sym (ap (λ (x : Value). test x.value) (number_is c o r.0 r.1)) ∙ p.1)

  -- ---- starts
  module _ (width rows row : ℕ) where
    abbrev fitting : Starts → ℕ → ℕ → Bool
    fitting st i x = start_fits i st.last x rows

    start_judged : (st : Starts) (i : ℕ) → st.next.big ≡ big → Clean (start_into s width rows row st i).next → Judged width st.next (fitting st i)
    unfolding start_into ◌>>=◌
    start_judged st i o e = judged_read width st.next (fitting st i) o (rw started_next at e)

    record StartStep (st : Starts) (i : ℕ) (new : Starts) : Type 0 where
      room : width ≤ left_in st.next
      next : new.next ≡ moved_to st.next (st.next.at + width)
      last : new.last ≡ uint_of big width s st.next.at
      fits : fitting st i (uint_of big width s st.next.at) ≡ true
      hit : new.hit ≡ cond (leb (uint_of big width s st.next.at) row) i st.hit

    start_from : (st : Starts) (i : ℕ) → Judged width st.next (fitting st i) → StartStep st i (start_into s width rows row st i)
    unfolding start_into ◌>>=◌
    start_from st i j =
        let v = sized_at s st.next width in
        let n = judged v.next st.next.at (fitting st i v.value) 11 in
        let hit = cond (leb v.value row) i st.hit in
        let h : Clean n = ap (λ (x : Cursor). x.refused) j.next in
        record {
          room = j.room;
          next = started_next n v.value hit ∙ j.next;
          last = rw (← (started_on n v.value hit h)) j.value;
          fits = j.passed;
          hit = rw (← (started_on n v.value hit h), j.value);
        }

    -- n starts from a cursor on; `hit` is the last of them that is not above the row
    pub record StartsRead (c : Cursor) (n : ℕ) (st : Starts) : Type 0 where
      pub room : n * width ≤ left_in c
      pub next : st.next ≡ past width c n
      pub last : st.last ≡ before (number_of width c) n
      pub fits : (i : ℕ) → i < n → start_fits i (before (number_of width c) i) (number_of width c i) rows ≡ true
      pub hit : st.hit ≡ last_below (λ (i : ℕ). leb (number_of width c i) row) n

    starts_none : (c : Cursor) → Clean c → StartsRead c 0 (record { last = 0; hit = 0; next = c })
    unfolding last_below
    starts_none c h = record { room = omega arith; next = past_none width c h; last = refl; fits = λ i l. absurd (not-suc-le-zero l); hit = refl }

    starts_from_lem : (c : Cursor) (n : ℕ) (st : Starts) {new : Starts} → StartsRead c n st → StartStep st n new → StartsRead c (suc n) new
    unfolding last_below
    starts_from_lem c n st {new} v t =
        let at : st.next.at ≡ c.at + n * width = ap (λ (x : Cursor). x.at) v.next in
        record {
          room = past_room width c st.next n v.next v.room t.room;
          next = t.next ∙ past_more width c st.next n v.next;
          last = t.last ∙ ap (uint_of big width s) at;
          fits = λ i l. elim (ℕ_discrete i n) [
            | yes q ↦ rw q (rw (v.last, at) at t.fits)
            | no q ↦ v.fits i (omega arith)
          ];
          hit = t.hit ∙ rw (at, v.hit);
        }

    pub starts_read : (c : Cursor) (n : ℕ) → c.big ≡ big → Clean (starts_from s width rows row c n).next
        → StartsRead c n (starts_from s width rows row c n)
    unfolding after
    starts_read c zero o e = starts_none c e
    starts_read c (suc n) o e =
        let st = starts_from s width rows row c n in
        let v = starts_read c n o (start_clean s width rows row st n e) in
        starts_from_lem c n st v (start_from st n (start_judged st n (ap (λ (x : Cursor). x.big) v.next ∙ o) e))

    pub starts_on : (c : Cursor) (n : ℕ) → c.big ≡ big → Clean c → n * width ≤ left_in c
        → ((i : ℕ) → i < n → start_fits i (before (number_of width c) i) (number_of width c i) rows ≡ true) → StartsRead c n (starts_from s width rows row c n)
    unfolding after
    starts_on c zero o h l f = starts_none c h
    starts_on c (suc n) o h l f =
        let st = starts_from s width rows row c n in
        let v = starts_on c n o h (omega (arith, suc-mul n width)) (λ i k. f i (omega arith)) in
        let at : st.next.at ≡ c.at + n * width = ap (λ (x : Cursor). x.at) v.next in
        let order : st.next.big ≡ big = ap (λ (x : Cursor). x.big) v.next ∙ o in
        let clean : Clean st.next = ap (λ (x : Cursor). x.refused) v.next in
        let j = judged_on width st.next (fitting st n) order clean (room_past width c st.next n v.next l) (rw (v.last, at) (f n (omega arith))) in
        starts_from_lem c n st v (start_from st n j)

  -- ---- offsets
  module _ (limit bytes hit : ℕ) where
    abbrev within : ℕ → Bool
    within x = leb (x + bytes) limit

    offset_judged : (st : Value) (i : ℕ) → st.next.big ≡ big → Clean (offset_into s limit bytes hit st i).next → Judged 4 st.next within
    unfolding offset_into uint_at sized_at settled ◌>>=◌
    offset_judged st i o e = judged_read 4 st.next within o e

    record OffsetStep (st : Value) (i : ℕ) (new : Value) : Type 0 where
      room : 4 ≤ left_in st.next
      next : new.next ≡ moved_to st.next (st.next.at + 4)
      fits : uint_of big 4 s st.next.at + bytes ≤ limit
      value : new.value ≡ cond (eqb i hit) (uint_of big 4 s st.next.at) st.value

    offset_from : (st : Value) (i : ℕ) → Judged 4 st.next within → OffsetStep st i (offset_into s limit bytes hit st i)
    unfolding offset_into uint_at sized_at settled ◌>>=◌
    offset_from st i j =
        let v = uint_at s st.next in
        let n = judged v.next st.next.at (within v.value) 11 in
        record {
          room = j.room;
          next = j.next;
          fits = leb-true _ _ j.passed;
          value = rw (eq-eqb n.refused 0 (ap (λ (x : Cursor). x.refused) j.next), j.value);
        }

    -- n offsets from a cursor on; that of value `hit` is kept
    pub record OffsetsRead (c : Cursor) (n : ℕ) (st : Value) : Type 0 where
      pub room : n * 4 ≤ left_in c
      pub next : st.next ≡ past 4 c n
      pub fits : (i : ℕ) → i < n → number_of 4 c i + bytes ≤ limit
      pub value : hit < n → st.value ≡ number_of 4 c hit

    offsets_none : (c : Cursor) → Clean c → OffsetsRead c 0 (record { value = 0; next = c })
    offsets_none c h = record {
      room = omega arith;
      next = past_none 4 c h;
      fits = λ i l. absurd (not-suc-le-zero l);
      value = λ l. absurd (not-suc-le-zero l);
    }

    offsets_from_lem : (c : Cursor) (n : ℕ) (st : Value) {new : Value} → OffsetsRead c n st → OffsetStep st n new → OffsetsRead c (suc n) new
    offsets_from_lem c n st {new} v t =
        let at : st.next.at ≡ c.at + n * 4 = ap (λ (x : Cursor). x.at) v.next in
        record {
          room = past_room 4 c st.next n v.next v.room t.room;
          next = t.next ∙ past_more 4 c st.next n v.next;
          fits = λ i l. elim (ℕ_discrete i n) [
            | yes q ↦ rw q (rw at at t.fits)
            | no q ↦ v.fits i (omega arith)
          ];
          value = λ l. elim (ℕ_discrete n hit) [
            | yes q ↦ t.value ∙ rw (eq-eqb n hit q, at, q)
            | no q ↦ t.value ∙ rw (ne_eqb n hit q) (v.value (omega arith))
          ];
        }

    pub offsets_read : (c : Cursor) (n : ℕ) → c.big ≡ big → Clean (offsets_from s limit bytes hit c n).next
        → OffsetsRead c n (offsets_from s limit bytes hit c n)
    unfolding after
    offsets_read c zero o e = offsets_none c e
    offsets_read c (suc n) o e =
        let st = offsets_from s limit bytes hit c n in
        let v = offsets_read c n o (offset_clean s limit bytes hit st n e) in
        offsets_from_lem c n st v (offset_from st n (offset_judged st n (ap (λ (x : Cursor). x.big) v.next ∙ o) e))

    pub offsets_on : (c : Cursor) (n : ℕ) → c.big ≡ big → Clean c → n * 4 ≤ left_in c
        → ((i : ℕ) → i < n → number_of 4 c i + bytes ≤ limit) → OffsetsRead c n (offsets_from s limit bytes hit c n)
    unfolding after
    offsets_on c zero o h l f = offsets_none c h
    offsets_on c (suc n) o h l f =
        let st = offsets_from s limit bytes hit c n in
        let v = offsets_on c n o h (omega arith) (λ i k. f i (omega arith)) in
        let at : st.next.at ≡ c.at + n * 4 = ap (λ (x : Cursor). x.at) v.next in
        let order : st.next.big ≡ big = ap (λ (x : Cursor). x.big) v.next ∙ o in
        let clean : Clean st.next = ap (λ (x : Cursor). x.refused) v.next in
        let j = judged_on 4 st.next within order clean (room_past 4 c st.next n v.next l) (le-leb _ limit (rw at (f n (omega arith)))) in
        offsets_from_lem c n st v (offset_from st n j)
