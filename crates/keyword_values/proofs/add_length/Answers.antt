-- `keyword_values::add_length` meets its contract: its calls compose as the definition says.
use mathlib.Core.Path.{◌≡◌}
use Prim.Native.Nat.{ℕ, min}
use native.Mathlib.Omega.{arith}
use Rattle.bytes_at.proofs.Stepped.{via}
use Rattle.keyword_rules.specs.Values.{length_into}
use Rattle.keyword_values.proofs.add_length.Goals as goal

-- a product that 64 bits do not hold is above 2^32
held : (m r k : ℕ) → r ≡ min m 18446744073709551615 → k ≡ min r 4294967296 → k ≡ min m 4294967296
held m r k e f = omega arith

pub returns : goal.returns
unfolding length_into
returns c =
    via _ c.code-axis.ensures.value (
    via _ (held _ _ _ c.saturating_mul.ensures c.min-more.ensures) c.settle.ensures.value)
