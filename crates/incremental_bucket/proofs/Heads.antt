-- The head of a column's part: what is given at each way out.
--     -kept     the cursor was refused already
--     -short    the bucket ends before the number does
--     -on       the number passes its tests
-- Assumes nothing.
use mathlib.Core.Path.{◌≡◌, refl, sym, ap, ◌∙◌}
use mathlib.Core.List.{List}
use Prim.Native.Nat.{ℕ, ◌+◌, ◌≤◌, ◌<◌}
use native.Mathlib.Omega.{arith}
use lib.Dec.{ltb}
use borrow.Author.Tests.{lt-ltb, le-ltb}
use Rattle.bytes_at.specs.Number.{uint_of}
use Rattle.bytes_at.proofs.Stepped.{via}
use Rattle.aipsio_rules.specs.declared.Cursor.{Cursor}
use Rattle.aipsio_rules.specs.declared.Value.{Value}
use Rattle.aipsio_rules.specs.Field.{refused_at, moved_to, left_in, judged, uint_at}
use Rattle.aipsio_rules.proofs.Kept.{Clean, Refused, refused_reads, judged_keeps, uint_reads}
use Rattle.aipsio_rules.proofs.Sides.{judge_on, judge_refused}
use Rattle.incremental_rules.specs.declared.Starts.{Starts}
use Rattle.incremental_bucket.specs.Values.{refused_value}
use Rattle.incremental_rules.specs.Bucket.{starts_at, offsets_at, column_part_at}
use Rattle.incremental_rules.proofs.Turns.{forward, forward_is, uint_short, uint_on, starts_none, offsets_none}

module _ (s : List ℕ) (c : Cursor) where
  module _ (width limit rows row bytes : ℕ) where
    column_off : (d : Cursor) (n : ℕ) → Refused d → judged (uint_at s c).next c.at (ltb 0 (uint_at s c).value) 11 ≡ d → record { value = 0; next = d } ≡ column_part_at s c width limit rows row bytes
    unfolding column_part_at
    column_off d n h e =
        via _ refl (
        via _ (sym e) (
        via _ (starts_none s width rows row d _ h) (
        offsets_none s limit bytes 0 d _ h)))

    pub column_kept : Refused c → record { value = 0; next = c } ≡ column_part_at s c width limit rows row bytes
    column_kept h = column_off c 0 h (rw (refused_reads (uint_reads s c) h) ((judged_keeps c _ _ 11).stays h))

    module _ (h : Clean c) {left : ℕ} (e : left ≡ left_in c) where
      pub column_short : left < 4 → refused_value c c.at 1 ≡ column_part_at s c width limit rows row bytes
      column_short l =
          column_off (refused_at c c.at 1) 0 (λ z. omega arith)
          (rw (← (uint_short s c h e l)) ((judged_keeps (refused_at c c.at 1) c.at _ 11).stays (λ z. omega arith)))

      module _ {n : ℕ} (l : 4 ≤ left) (q : n ≡ uint_of c.big 4 s c.at) where
        pub column_none : n ≡ 0 → refused_value c c.at 11 ≡ column_part_at s c width limit rows row bytes
        column_none z =
            column_off (refused_at c c.at 11) n (λ y. omega arith)
            (rw (← (uint_on s c h e l q)) (sym (judge_refused (moved_to c (c.at + 4)) refl c.at (ltb 0 n) 11 (le-ltb 0 n (omega arith)))))

        pub column_on : {st : Starts} {r : Value} → (n ≡ 0 → ⊥) → st ≡ starts_at s (forward c (c.at + 4)) width n rows row
            → r ≡ offsets_at s st.next n limit bytes st.hit → r ≡ column_part_at s c width limit rows row bytes
        unfolding column_part_at
        column_on z p y =
            via _ (uint_on s c h e l q) (
            via _ (judge_on (moved_to c (c.at + 4)) refl c.at (ltb 0 n) 11 (lt-ltb 0 n (omega arith))) (
            via _ (p ∙ ap (λ (d : Cursor). starts_at s d width n rows row) (forward_is c (c.at + 4) h)) y))
