-- `keywords::walk::enter` meets its contract: a case for each way out.
use mathlib.Core.Path.{refl}
use borrow.Author.Tests.{eq-eqb, ne_eqb}
use Rattle.bytes_at.proofs.Stepped.{via}
use Rattle.keyword_rules.specs.TableRecord.{record_held_at, plain_held_at, held_at}
use Rattle.keywords.proofs.walk.enter.Goals as goal

pub returns-then-number-ne-RECORD : goal.returns-then-number-ne-RECORD
unfolding held_at plain_held_at
returns-then-number-ne-RECORD c =
    rw (ne_eqb _ 25 c.if-number-ne-RECORD.true) (
    via _ c.skip_specific-past.ensures (
    via _ c.skip_plain-values.ensures (
    refl)))

pub returns-then-n-eq0 : goal.returns-then-n-eq0
unfolding held_at record_held_at
returns-then-n-eq0 c =
    rw (eq-eqb _ 25 c.if-number-ne-RECORD.false) (
    via _ c.open-o.ensures (
    via _ c.uint-n.ensures.value (
    via _ c.pass-past.ensures (
    rw (eq-eqb _ 0 c.if-n-eq0.true) c.enter_whole.ensures))))

pub returns : goal.returns
unfolding held_at record_held_at
returns c =
    rw (eq-eqb _ 25 c.if-number-ne-RECORD.false) (
    via _ c.open-o.ensures (
    via _ c.uint-n.ensures.value (
    via _ c.pass-past.ensures (
    rw (ne_eqb _ 0 c.if-n-eq0.false)))))
