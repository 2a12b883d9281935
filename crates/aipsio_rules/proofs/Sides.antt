-- What a step gives on each side of its tests, where the cursor is not refused; `room` is what `left` gave.
-- Assumes nothing.
use mathlib.Core.Path.{◌≡◌, refl}
use mathlib.Core.Bool.{Bool, true, false, cond}
use Prim.Native.Nat.{ℕ, ◌+◌, ◌-◌, ◌*◌, ◌/◌, ◌≤◌, ◌<◌}
use native.Mathlib.Omega.{arith}
use native.Mathlib.Decide.{ℕ_discrete}
use lib.Dec.{eqb, leb, leb→le, le→leb}
use borrow.Author.Tests.{eq-eqb, ne_eqb, le-leb, lt-leb}
use Rattle.bytes_at.proofs.Tests.{alike}
use Rattle.aipsio_rules.specs.declared.Cursor.{Cursor}
use Rattle.aipsio_rules.specs.Field.{refused_at, moved_to, left_in, skipped, skipped_each, judged, settled, text_before}
use Rattle.aipsio_rules.proofs.Kept.{Clean}

module _ (c : Cursor) (h : Clean c) where
  pub goes : eqb c.refused 0 ≡ true
  goes = eq-eqb c.refused 0 h

  pub settle_on : (v : ℕ) → record { value = v; next = c } ≡ settled v c
  unfolding settled
  settle_on v = rw goes

  pub text_on : (n : ℕ) → record { start = c.at - n; len = n; next = c } ≡ text_before c n
  unfolding text_before
  text_on n = rw goes

  pub judge_on : (from : ℕ) (ok : Bool) (n : ℕ) → ok ≡ true → c ≡ judged c from ok n
  unfolding judged
  judge_on from ok n e = rw (goes, e)

  pub judge_refused : (from : ℕ) (ok : Bool) (n : ℕ) → ok ≡ false → refused_at c from n ≡ judged c from ok n
  unfolding judged
  judge_refused from ok n e = rw (goes, e)

  module _ {room : ℕ} (e : room ≡ left_in c) (n : ℕ) where
    pub skip_on : n ≤ room → moved_to c (c.at + n) ≡ skipped c n
    unfolding skipped
    skip_on l = rw (goes, le-leb n (left_in c) (omega arith))

    pub skip_refused : room < n → refused_at c c.at 1 ≡ skipped c n
    unfolding skipped
    skip_refused l = rw (goes, lt-leb n (left_in c) (omega arith))

    pub each_on : (size : ℕ) → n ≤ room / size → moved_to c (c.at + n * size) ≡ skipped_each c n size
    unfolding skipped_each
    each_on size l = rw (goes, le-leb n (left_in c / size) (rw e at l))

-- An entry of a map whose key or value is not there is missed alike, whether fields of 4 bytes or entries of 8 are counted.
entries_fit : (n room : ℕ) → leb (2 * n) (room / 4) ≡ leb n (room / 8)
entries_fit n room =
    alike _ _
    (λ t. let h = leb→le (2 * n) (room / 4) t in le→leb n (room / 8) (omega arith))
    (λ t. let h = leb→le n (room / 8) t in le→leb (2 * n) (room / 4) (omega arith))

either_number : (b : Bool) (c : Cursor) (at at' from from' : ℕ)
    → (cond b (moved_to c at) (refused_at c from 1)).refused ≡ (cond b (moved_to c at') (refused_at c from' 1)).refused
either_number true c at at' from from' = refl
either_number false c at at' from from' = refl

pub entries_alike : (c : Cursor) (n : ℕ) → (skipped_each c (2 * n) 4).refused ≡ (skipped_each c n 8).refused
unfolding skipped_each
entries_alike c n =
    elim (ℕ_discrete c.refused 0) [
      | yes h ↦ rw (goes c h, entries_fit n (left_in c)) (either_number (leb n (left_in c / 8)) c _ _ _ _)
      | no h ↦ rw (ne_eqb c.refused 0 h)
    ]
