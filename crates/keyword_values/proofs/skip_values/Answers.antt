-- `keyword_values::skip_values` meets its contract: a case for each way out.
use mathlib.Core.Path.{◌≡◌}
use Prim.Native.Nat.{ℕ, ◌+◌, ◌/◌, ◌%◌, min}
use native.Mathlib.Omega.{arith}
use borrow.Author.Tests.{eq-eqb, ne_eqb}
use Rattle.bytes_at.proofs.Stepped.{via}
use Rattle.keyword_rules.specs.Values.{values_at}
use Rattle.keyword_values.proofs.skip_values.Goals as goal

whole_bytes : (n : ℕ) → n / 8 + min 1 (n % 8) ≡ (n + 7) / 8
whole_bytes n = omega arith

pub returns-then-each-eq1 : goal.returns-then-each-eq1
unfolding values_at
returns-then-each-eq1 c = via _ c.bits_of-each.ensures.value (rw (eq-eqb _ 1 c.if-each-eq1.true, ← whole_bytes, ← c.div_ceil.ensures) c.skip_each.ensures)

pub returns-then-size-eq0 : goal.returns-then-size-eq0
unfolding values_at
returns-then-size-eq0 c = via _ c.bits_of-each.ensures.value (rw (ne_eqb _ 1 c.if-each-eq1.false, eq-eqb _ 0 c.if-size-eq0.true) c.skip_strings.ensures)

pub returns-else-size-eq0 : goal.returns-else-size-eq0
unfolding values_at
returns-else-size-eq0 c = via _ c.bits_of-each.ensures.value (rw (ne_eqb _ 1 c.if-each-eq1.false, ne_eqb _ 0 c.if-size-eq0.false) c.skip_each-else-size-eq0.ensures)
