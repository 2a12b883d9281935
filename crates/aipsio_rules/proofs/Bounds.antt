-- Bounds of what is read, also where the cursor is refused.
-- Assumes nothing.
use mathlib.Core.Path.{◌≡◌}
use mathlib.Core.List.{List}
use Prim.Native.Nat.{ℕ, suc, ◌≤◌, ◌<◌, zero-le}
use native.Mathlib.Decide.{ℕ_discrete}
use native.Mathlib.Omega.{arith}
use Rattle.bytes_at.specs.Number.{bytes_of}
use Rattle.bytes_at.specs.declared.Width.{Width}
use Rattle.bytes_at.specs.declared.Width.TheVariants.{One, Two, Four, Eight}
use Rattle.bytes_at.specs.Steps.{◌>>=◌}
use Rattle.aipsio_rules.specs.declared.Cursor.{Cursor}
use Rattle.aipsio_rules.specs.declared.Value.{Value}
use Rattle.aipsio_rules.specs.declared.Text.{Text}
use Rattle.aipsio_rules.specs.Field.{settled, ranged_at, text_before, string_at}
use Rattle.aipsio_rules.proofs.Kept.{Clean, settled_none, text_none}
use Rattle.aipsio_rules.proofs.Sides.{settle_on, text_on}
use Rattle.aipsio_rules.proofs.Accepted.{judged_within}

-- what is 0 where the cursor is refused
pub settled_le : (v : ℕ) (c : Cursor) {high : ℕ} → (Clean c → v ≤ high) → (settled v c).value ≤ high
settled_le v c h = elim (ℕ_discrete c.refused 0) [ yes q ↦ rw (← (settle_on c q v)) (h q) | no q ↦ rw (settled_none v c q) zero-le ]

pub text_le : (c : Cursor) (n : ℕ) {high : ℕ} → (Clean c → n ≤ high) → (text_before c n).len ≤ high
text_le c n h = elim (ℕ_discrete c.refused 0) [ yes q ↦ rw (← (text_on c q n)) (h q) | no q ↦ rw (text_none c n q) zero-le ]

pub ranged_le : (s : List ℕ) (c : Cursor) (width low high n : ℕ) → (ranged_at s c width low high (suc n)).value ≤ high
unfolding ranged_at ◌>>=◌
ranged_le s c width low high n = settled_le _ _ (λ e. (judged_within _ _ _ low high n e).1)

pub string_le : (s : List ℕ) (c : Cursor) (low high : ℕ) → (string_at s c low high).len ≤ high
unfolding string_at ◌>>=◌
string_le s c low high = text_le _ _ (λ e. (judged_within _ _ _ low high 3 e).1)

-- a result that is a definition's has the definition's bound
pub at_most : {r x : Value} {high : ℕ} → x.value ≤ high → r ≡ x → record { value : r ≡ x; bounded : r.value ≤ high }
at_most h e = record { value = e; bounded = rw e h }

pub long_at_most : {r x : Text} {high : ℕ} → x.len ≤ high → r ≡ x → record { value : r ≡ x; bounded : r.len ≤ high }
long_at_most h e = record { value = e; bounded = rw e h }

pub bytes_some : {n : ℕ} (w : Width) → n ≡ bytes_of w → 0 < n
bytes_some One e = omega arith
bytes_some Two e = omega arith
bytes_some Four e = omega arith
bytes_some Eight e = omega arith
