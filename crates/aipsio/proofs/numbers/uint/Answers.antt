-- `aipsio::numbers::uint` meets its contract: it is `sized` of four bytes, and what they hold is below 4294967296.
use mathlib.Core.Path.{sym, ◌∙◌}
use mathlib.Core.List.{List}
use Prim.Native.Nat.{ℕ, ◌<◌}
use native.Mathlib.Omega.{arith}
use Rattle.bytes_at.specs.Number.{uint_of}
use Rattle.bytes_at.specs.Steps.{◌>>=◌}
use Rattle.bytes_at.proofs.Numbers.{Bytes, word_below}
use Rattle.aipsio_rules.specs.declared.Cursor.{Cursor}
use Rattle.aipsio_rules.specs.Field.{uint_at, skipped}
use Rattle.aipsio_rules.proofs.Accepted.{uint_is}
use Rattle.aipsio_rules.proofs.Bounds.{settled_le}
use Rattle.aipsio.proofs.numbers.uint.Goals as goal

uint_below : (s : List ℕ) (c : Cursor) → Bytes s → (uint_at s c).value < 4294967296
unfolding uint_at ◌>>=◌
uint_below s c h =
    let l = word_below s c.at h c.big in
    omega (arith, settled_le (uint_of c.big 4 s c.at) (skipped c 4) {high = 4294967295} (λ e. omega arith))

pub returns : goal.returns
returns c = let e = c.sized.ensures ∙ sym (uint_is _ _) in record { value = e; bounded = rw e (uint_below _ _ c.type_inv.s) }
