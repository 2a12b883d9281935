-- `keyword_values::skip_scalar` meets its contract: a case for each way out.
use mathlib.Core.Path.{ap}
use borrow.Author.Tests.{eq-eqb, ne_eqb}
use Rattle.aipsio_rules.specs.declared.Value.{Value}
use Rattle.aipsio_rules.specs.declared.Text.{Text}
use Rattle.bytes_at.proofs.Stepped.{via}
use Rattle.keyword_rules.specs.Values.{scalar_at}
use Rattle.keyword_values.proofs.skip_scalar.Goals as goal

pub returns-then-each-eq1 : goal.returns-then-each-eq1
unfolding scalar_at
returns-then-each-eq1 c = via _ c.bits_of-each.ensures.value (rw (eq-eqb _ 1 c.if-each-eq1.true) (ap (λ (v : Value). v.next) c.flag.ensures.value))

pub returns-then-size-eq0 : goal.returns-then-size-eq0
unfolding scalar_at
returns-then-size-eq0 c = via _ c.bits_of-each.ensures.value (rw (ne_eqb _ 1 c.if-each-eq1.false, eq-eqb _ 0 c.if-size-eq0.true) (ap (λ (t : Text). t.next) c.string.ensures.value))

pub returns-else-size-eq0 : goal.returns-else-size-eq0
unfolding scalar_at
returns-else-size-eq0 c = via _ c.bits_of-each.ensures.value (rw (ne_eqb _ 1 c.if-each-eq1.false, ne_eqb _ 0 c.if-size-eq0.false) c.skip.ensures)
