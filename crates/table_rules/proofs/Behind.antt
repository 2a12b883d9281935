-- In the old form of DMInfo the offsets begin where the set numbers end.
-- Assumes nothing.
use mathlib.Core.Path.{◌≡◌, refl, ap}
use mathlib.Core.List.{List}
use Prim.Native.Nat.{ℕ, ◌+◌, ◌-◌, ◌*◌, ◌≤◌}
use native.Mathlib.Omega.{arith}
use borrow.Author.Tests.{eqb-true}
use Rattle.bytes_at.specs.Number.{uint_of}
use Rattle.bytes_at.specs.Steps.{◌>>=◌}
use Rattle.aipsio_rules.specs.declared.Cursor.{Cursor}
use Rattle.aipsio_rules.specs.declared.Text.{Text}
use Rattle.aipsio_rules.specs.Field.{left_in, moved_to, skipped, text_at}
use Rattle.aipsio_rules.proofs.Kept.{Clean, text_next}
use Rattle.aipsio_rules.proofs.Accepted.{judged_passed, skipped_fits}
use Rattle.aipsio_rules.proofs.Ways.{any_string_on}
use Rattle.table_rules.specs.ColumnSet.{lists_in, OffsetsBehindSets}

module _ (s : List ℕ) (c : Cursor) where
  abbrev long : ℕ
  long = uint_of c.big 4 s c.at

  fits : Clean (text_at s c).next → (Clean c) × (4 + long ≤ left_in c)
  unfolding text_at ◌>>=◌
  fits h = skipped_fits c (4 + long) (rw (text_next (skipped c (4 + long)) long) at h)

  text_is : Clean (text_at s c).next → record { start = c.at + 4; len = long; next = moved_to c (c.at + (4 + long)) } ≡ text_at s c
  text_is h = let p = fits h in any_string_on s c p.0 refl refl p.1

  behind : (n : ℕ) → Clean (lists_in c (text_at s c) n).next → (text_at s c).next.at - 4 * n ≡ (text_at s c).start + 4 * n
  unfolding lists_in ◌>>=◌
  behind n h =
      let p = judged_passed (text_at s c).next c.at _ 6 h in
      let e = text_is p.0 in
      let start : c.at + 4 ≡ (text_at s c).start = ap (λ (t : Text). t.start) e in
      let size : long ≡ (text_at s c).len = ap (λ (t : Text). t.len) e in
      let past : c.at + (4 + long) ≡ (text_at s c).next.at = ap (λ (t : Text). t.next.at) e in
      let eight : (text_at s c).len ≡ 8 * n = eqb-true (text_at s c).len (8 * n) p.1 in
      omega arith

pub offsets_behind_sets : OffsetsBehindSets
unfolding lists_in ◌>>=◌
offsets_behind_sets s c n h = behind s c n h
