-- The loops over a column's starts and offsets: what a turn gives at each of its ways out, and that a refused state stays.
--     -short    the bucket ends before the number does
--     -wrong    the number fails its test
--     -on       it passes
--     -still    no further turn changes a refused state
--     -stop     the loop may be left with it
-- Assumes nothing.
use mathlib.Core.Path.{◌≡◌, refl, sym, ap, ◌∙◌}
use mathlib.Core.List.{List}
use mathlib.Core.Bool.{Bool, true, false, cond}
use Prim.Native.Nat.{ℕ, ◌+◌, ◌≤◌, ◌<◌, zero-le}
use native.Mathlib.Decide.{ℕ_discrete}
use native.Mathlib.Omega.{arith}
use lib.Dec.{leb, eqb}
use borrow.Author.Tests.{eq-eqb, ne_eqb}
use Rattle.bytes_at.specs.Number.{uint_of}
use Rattle.bytes_at.specs.Steps.{after}
use Rattle.bytes_at.proofs.Loops.{after_none, after_more, after_all, after_stop}
use Rattle.bytes_at.proofs.Stepped.{via}
use Rattle.aipsio_rules.specs.declared.Cursor.{Cursor}
use Rattle.aipsio_rules.specs.declared.Value.{Value}
use Rattle.aipsio_rules.specs.Field.{refused_at, moved_to, left_in, uint_at}
use Rattle.aipsio_rules.proofs.Kept.{Clean, Refused, refused_reads, judged_keeps, settled_none, sized_reads, uint_reads}
use Rattle.aipsio_rules.proofs.Sides.{judge_on, judge_refused, settle_on}
use Rattle.aipsio_rules.proofs.Ways.{sized_short, sized_on}
use Rattle.aipsio_rules.proofs.Accepted.{uint_is}
use Rattle.incremental_rules.specs.declared.Starts.{Starts}
use Rattle.incremental_rules.specs.Bucket.{begun, start_fits, started, start_into, starts_at, offset_into, offsets_at}

-- an unrefused cursor, field by field
pub same : (c : Cursor) → Clean c → record { at = c.at; end = c.end; big = c.big; refused = 0 } ≡ c
same c h = ap (λ (x : ℕ). record { at = c.at; end = c.end; big = c.big; refused = x }) (sym h)

-- moved on to a place, with whatever refusal there is
abbrev pub forward : Cursor → ℕ → Cursor
forward c at = record { at = at; end = c.end; big = c.big; refused = c.refused }

pub forward_is : (c : Cursor) (at : ℕ) → Clean c → forward c at ≡ moved_to c at
forward_is c at h = ap (λ (x : ℕ). record { at = at; end = c.end; big = c.big; refused = x }) h

abbrev starts_by : ℕ → ℕ → Cursor → Starts
starts_by last hit c = record { last = last; hit = hit; next = c }

abbrev value_by : ℕ → Cursor → Value
value_by value c = record { value = value; next = c }

-- ---- a uInt
module _ (s : List ℕ) (c : Cursor) (h : Clean c) {left : ℕ} (e : left ≡ left_in c) where
  pub uint_short : left < 4 → record { value = 0; next = refused_at c c.at 1 } ≡ uint_at s c
  uint_short l = sized_short s c h e refl l refl ∙ sym (uint_is s c)

  pub uint_on : {v : ℕ} → 4 ≤ left → v ≡ uint_of c.big 4 s c.at → record { value = v; next = moved_to c (c.at + 4) } ≡ uint_at s c
  uint_on l q = sized_on s c h e refl l q ∙ sym (uint_is s c)

-- ---- the beginning of a bucket
module _ (c : Cursor) (wide : Bool) (len : ℕ) where
  pub begun_on : Clean c → begun c wide len ≡ record { wide = wide; len = len; next = c }
  unfolding begun
  begun_on h = rw (eq-eqb c.refused 0 h)

  pub begun_off : Refused c → begun c wide len ≡ record { wide = false; len = 0; next = c }
  unfolding begun
  begun_off h = rw (ne_eqb c.refused 0 h)

  pub begun_next : (begun c wide len).next ≡ c
  begun_next = elim (ℕ_discrete c.refused 0) [ yes h ↦ rw (begun_on h) | no h ↦ rw (begun_off h) ]

-- ---- starts
module _ (c : Cursor) (last hit : ℕ) where
  pub started_on : Clean c → record { last = last; hit = hit; next = c } ≡ started c last hit
  unfolding started
  started_on h = rw (eq-eqb c.refused 0 h)

  pub started_off : Refused c → record { last = 0; hit = 0; next = c } ≡ started c last hit
  unfolding started
  started_off h = rw (ne_eqb c.refused 0 h)

module _ (s : List ℕ) (width rows row : ℕ) where
  -- `size` is the width as the code has it
  module _ (st : Starts) (i : ℕ) (h : Clean st.next) {left size : ℕ} (e : left ≡ left_in st.next) (w : size ≡ width) where
    pub start_short : left < size → record { last = 0; hit = 0; next = refused_at st.next st.next.at 1 } ≡ start_into s width rows row st i
    unfolding start_into
    start_short l =
        via _ (sized_short s st.next h e w l refl) (
        via _ refl (
        via _ (sym ((judged_keeps (refused_at st.next st.next.at 1) st.next.at _ 11).stays (λ z. omega arith))) (
        via _ refl (
        started_off _ _ _ (λ z. omega arith)))))

    module _ {v : ℕ} (l : size ≤ left) (q : v ≡ uint_of st.next.big width s st.next.at) {ok : Bool} (t : ok ≡ start_fits i st.last v rows) where
      pub start_wrong : ok ≡ false → record { last = 0; hit = 0; next = refused_at st.next st.next.at 11 } ≡ start_into s width rows row st i
      unfolding start_into
      start_wrong z =
          via _ (sized_on s st.next h e w l q) (
          via _ t (
          via _ (judge_refused (moved_to st.next (st.next.at + size)) refl st.next.at ok 11 z) (
          via _ refl (
          started_off _ _ _ (λ y. omega arith)))))

      pub start_on : {hit : ℕ} → ok ≡ true → hit ≡ cond (leb v row) i st.hit
          → record { last = v; hit = hit; next = forward st.next (st.next.at + size) } ≡ start_into s width rows row st i
      unfolding start_into
      start_on {hit} z p =
          ap (starts_by v hit) (forward_is st.next (st.next.at + size) h) ∙ (
          via _ (sized_on s st.next h e w l q) (
          via _ t (
          via _ (judge_on (moved_to st.next (st.next.at + size)) refl st.next.at ok 11 z) (
          via _ p (
          started_on _ _ _ refl)))))

  starts_still : (c : Cursor) → Refused c → (j : ℕ) → start_into s width rows row (record { last = 0; hit = 0; next = c }) j ≡ record { last = 0; hit = 0; next = c }
  unfolding start_into
  starts_still c h j =
      sym (
      via _ (sym (refused_reads (sized_reads s c width) h)) (
      via _ refl (
      via _ (sym ((judged_keeps c _ _ 11).stays h)) (
      via _ refl (
      started_off _ _ _ h)))))

  module _ (c : Cursor) (n : ℕ) where
    pub starts_none : Refused c → record { last = 0; hit = 0; next = c } ≡ starts_at s c width n rows row
    unfolding starts_at
    starts_none h = after_stop _ _ 0 n (after_none _ _) zero-le (starts_still c h)

    module _ (i : ℕ) {st : Starts} (v : st ≡ after (start_into s width rows row) (record { last = 0; hit = 0; next = c }) i) where
      pub starts_stop : {d : Cursor} → i < n → Refused d → record { last = 0; hit = 0; next = d } ≡ start_into s width rows row st i
          → record { last = 0; hit = 0; next = d } ≡ starts_at s c width n rows row
      unfolding starts_at
      starts_stop {d} l g q = after_stop _ _ (i + 1) n (after_more _ _ i v q) (omega arith) (starts_still d g)

      pub starts_all : i ≤ n → n ≤ i → st ≡ starts_at s c width n rows row
      unfolding starts_at
      starts_all a b = after_all _ _ i n v a b

-- ---- offsets
module _ (s : List ℕ) (limit bytes hit : ℕ) where
  module _ (st : Value) (i : ℕ) (h : Clean st.next) {left : ℕ} (e : left ≡ left_in st.next) where
    pub offset_short : left < 4 → record { value = 0; next = refused_at st.next st.next.at 1 } ≡ offset_into s limit bytes hit st i
    unfolding offset_into
    offset_short l =
        via _ (uint_short s st.next h e l) (
        via _ refl (
        via _ (sym ((judged_keeps (refused_at st.next st.next.at 1) st.next.at _ 11).stays (λ z. omega arith))) (
        via _ refl (
        sym (settled_none _ _ (λ z. omega arith))))))

    module _ {v : ℕ} (l : 4 ≤ left) (q : v ≡ uint_of st.next.big 4 s st.next.at) {ok : Bool} (t : ok ≡ leb (v + bytes) limit) where
      pub offset_wrong : ok ≡ false → record { value = 0; next = refused_at st.next st.next.at 11 } ≡ offset_into s limit bytes hit st i
      unfolding offset_into
      offset_wrong z =
          via _ (uint_on s st.next h e l q) (
          via _ t (
          via _ (judge_refused (moved_to st.next (st.next.at + 4)) refl st.next.at ok 11 z) (
          via _ refl (
          sym (settled_none _ _ (λ y. omega arith))))))

      pub offset_on : {offset : ℕ} → ok ≡ true → offset ≡ cond (eqb i hit) v st.value
          → record { value = offset; next = forward st.next (st.next.at + 4) } ≡ offset_into s limit bytes hit st i
      unfolding offset_into
      offset_on {offset} z p =
          ap (value_by offset) (forward_is st.next (st.next.at + 4) h) ∙ (
          via _ (uint_on s st.next h e l q) (
          via _ t (
          via _ (judge_on (moved_to st.next (st.next.at + 4)) refl st.next.at ok 11 z) (
          via _ p (
          settle_on _ refl _)))))

  offsets_still : (c : Cursor) → Refused c → (j : ℕ) → offset_into s limit bytes hit (record { value = 0; next = c }) j ≡ record { value = 0; next = c }
  unfolding offset_into
  offsets_still c h j =
      sym (
      via _ (sym (refused_reads (uint_reads s c) h)) (
      via _ refl (
      via _ (sym ((judged_keeps c _ _ 11).stays h)) (
      via _ refl (
      sym (settled_none _ _ h))))))

  module _ (c : Cursor) (n : ℕ) where
    pub offsets_none : Refused c → record { value = 0; next = c } ≡ offsets_at s c n limit bytes hit
    unfolding offsets_at
    offsets_none h = after_stop _ _ 0 n (after_none _ _) zero-le (offsets_still c h)

    module _ (i : ℕ) {st : Value} (v : st ≡ after (offset_into s limit bytes hit) (record { value = 0; next = c }) i) where
      pub offsets_stop : {d : Cursor} → i < n → Refused d → record { value = 0; next = d } ≡ offset_into s limit bytes hit st i
          → record { value = 0; next = d } ≡ offsets_at s c n limit bytes hit
      unfolding offsets_at
      offsets_stop {d} l g q = after_stop _ _ (i + 1) n (after_more _ _ i v q) (omega arith) (offsets_still d g)

      pub offsets_all : i ≤ n → n ≤ i → st ≡ offsets_at s c n limit bytes hit
      unfolding offsets_at
      offsets_all a b = after_all _ _ i n v a b
