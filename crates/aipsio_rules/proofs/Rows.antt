-- The loop over row numbers: what a turn gives at each of its ways out, and that a refused cursor stays.
--     -short       the enclosing object ends before the number does
--     -negative    the number is negative
--     -on          it is not
-- Assumes nothing.
use mathlib.Core.Path.{◌≡◌, refl, ap}
use mathlib.Core.List.{List}
use Prim.Native.Nat.{ℕ, ◌+◌, ◌≤◌, ◌<◌, zero-le}
use native.Mathlib.Omega.{arith}
use borrow.Author.Tests.{le-leb, lt-leb}
use Rattle.bytes_at.specs.Number.{uint_of}
use Rattle.bytes_at.proofs.Loops.{after_none, after_more, after_all, after_stop}
use Rattle.aipsio_rules.specs.declared.Cursor.{Cursor}
use Rattle.aipsio_rules.specs.declared.Value.{Value}
use Rattle.aipsio_rules.specs.Field.{most_int64, refused_at, moved_to, left_in, settled, row_at}
use Rattle.aipsio_rules.specs.Object.{rows_at}
use Rattle.aipsio_rules.proofs.Kept.{Clean, Refused, ranged_reads}
use Rattle.aipsio_rules.proofs.Ways.{sized_short, sized_on, ranged_kept, ranged_on, ranged_out}

next_same : {a b : Value} → a ≡ b → a.next ≡ b.next
next_same e = ap (λ (v : Value). v.next) e

module _ (s : List ℕ) (width : ℕ) where
  -- one number; `size` is the width as the code has it
  module _ (c : Cursor) (h : Clean c) {left size : ℕ} (e : left ≡ left_in c) (w : size ≡ width) where
    pub row_short : left < size → refused_at c c.at 1 ≡ (row_at s c width).next
    row_short l = next_same (ranged_kept s c width 0 most_int64 4 (sized_short s c h e w l refl) (λ z. omega arith))

    module _ {v : ℕ} (l : size ≤ left) (q : v ≡ uint_of c.big width s c.at) where
      pub row_negative : most_int64 < v → refused_at c c.at 4 ≡ (row_at s c width).next
      unfolding settled
      row_negative k =
          next_same (ranged_out s c width 0 most_int64 4 (sized_on s c h e w l q) refl refl {d = refused_at c c.at 4} {x = settled v (refused_at c c.at 4)}
          (rw (le-leb 0 v zero-le, lt-leb v most_int64 k)) refl refl)

      pub row_on : v ≤ most_int64 → moved_to c (c.at + size) ≡ (row_at s c width).next
      row_on k = next_same (ranged_on s c width 0 most_int64 4 (sized_on s c h e w l q) refl refl (rw (le-leb 0 v zero-le, le-leb v most_int64 k)))

  row_still : (c : Cursor) → Refused c → (j : ℕ) → (row_at s c width).next ≡ c
  row_still c h j = (ranged_reads s c width 0 most_int64 4).keeps.stays h

  module _ (c : Cursor) where
    pub rows_start : c ≡ rows_at s c 0 width
    unfolding rows_at
    rows_start = after_none _ c

    pub rows_more : (i : ℕ) {d x : Cursor} → d ≡ rows_at s c i width → x ≡ (row_at s d width).next → x ≡ rows_at s c (i + 1) width
    unfolding rows_at
    rows_more i p q = after_more _ c i p q

    pub rows_none : (n : ℕ) → Refused c → c ≡ rows_at s c n width
    unfolding rows_at
    rows_none n h = after_stop _ c 0 n (after_none _ c) zero-le (row_still c h)

    -- d is the cursor after i turns
    module _ (n i : ℕ) {d : Cursor} (v : d ≡ rows_at s c i width) where
      pub rows_stop : {x : Cursor} → i < n → Refused x → x ≡ (row_at s d width).next → x ≡ rows_at s c n width
      unfolding rows_at
      rows_stop {x} l g q = after_stop _ c (i + 1) n (after_more _ c i v q) (omega arith) (row_still x g)

      pub rows_all : i ≤ n → n ≤ i → d ≡ rows_at s c n width
      unfolding rows_at
      rows_all a b = after_all _ c i n v a b
