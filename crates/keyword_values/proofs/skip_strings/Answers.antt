-- `keyword_values::skip_strings` meets its contract. The loop's invariant: the cursor is the definition's after i turns.
use mathlib.Core.Path.{ap}
use native.Mathlib.Omega.{arith}
use Rattle.bytes_at.proofs.Loops.{after_none, after_more, after_all}
use Rattle.aipsio_rules.specs.declared.Text.{Text}
use Rattle.aipsio_rules.proofs.Kept.{string_reads, stop}
use Rattle.keyword_rules.specs.Values.{strings_at}
use Rattle.keyword_values.proofs.skip_strings.Goals as goal

pub loop-i-init : goal.loop-i-init
loop-i-init c = after_none _ _

pub returns-then-d-ne0 : goal.returns-then-d-ne0
unfolding strings_at
returns-then-d-ne0 c = stop _ (λ d j. (string_reads _ d 0 4096).keeps) _ _ _ c.loop-i.invariant (omega arith) c.if-d-ne0.true

pub loop-i-preserved : goal.loop-i-preserved
loop-i-preserved c = after_more _ _ _ c.loop-i.invariant (ap (λ (t : Text). t.next) c.string.ensures.value)

pub returns-after-loop-i : goal.returns-after-loop-i
unfolding strings_at
returns-after-loop-i c = after_all _ _ _ _ c.loop-i.invariant (omega arith) (omega arith)
