-- `keyword_desc::judge_type` meets its contract, the one function of its cycle of calls. The measure is the levels left. The loop's
-- invariant: the cursor is the definition's after i fields.
use mathlib.Core.Path.{sym, ◌∙◌}
use native.Mathlib.Omega.{arith}
use Rattle.bytes_at.proofs.Loops.{after_none, after_more, after_all}
use Rattle.bytes_at.proofs.Stepped.{via}
use Rattle.aipsio_rules.proofs.Kept.{stop}
use Rattle.keyword_rules.specs.RecordDesc.{field_past, desc_with}
use Rattle.keyword_rules.proofs.Kept.{field_past_keeps}
use Rattle.keyword_rules.proofs.Levels.{desc_plain, desc_none, desc_level}
use Rattle.keyword_desc.proofs.+judge_type.Goals as goal
use Rattle.keyword_desc.proofs.+judge_type.Goals.{else-loop-i-test, then-loop-i-test+then-d-ne0}

pub returns-then-number-ne-RECORD : goal.returns-then-number-ne-RECORD
unfolding desc_with field_past
returns-then-number-ne-RECORD t c = c.skip_specific.ensures ∙ sym (desc_plain _ _ _ _ c.if-number-ne-RECORD.true)

pub returns-then-deeper-eq0 : goal.returns-then-deeper-eq0
unfolding desc_with field_past
returns-then-deeper-eq0 t c = sym (desc_none _ _ _ _ c.if-number-ne-RECORD.false c.if-deeper-eq0.true)

pub loop-i-init : goal.loop-i-init
unfolding desc_with field_past
loop-i-init t c = after_none _ _

pub loop-i-preserved : goal.loop-i-preserved
unfolding desc_with field_past
loop-i-preserved t c =
    after_more _ _ _ c.loop-i.invariant (
    via _ c.read_head-f.ensures (
    via _ c.judge_type-e.ensures c.skip_comment-d.ensures))

pub returns : goal.returns
unfolding desc_with field_past
returns t c =
    via _ c.open-o.ensures (
    via _ c.number-n.ensures.value (
    via _ (elim c.loop-i-test.branch [
      | else-loop-i-test w ↦ after_all _ _ _ _ c.loop-i.invariant (omega arith) (omega (arith, w.loop-i-test.false))
      | then-loop-i-test+then-d-ne0 w ↦ stop _ (λ d j. field_past_keeps _ _ _ d) _ _ _ c.loop-i.invariant (omega arith) w.if-d-ne0.true
    ]) c.close.ensures))
    ∙ sym (desc_level _ _ _ _ c.if-number-ne-RECORD.false c.if-deeper-eq0.false)
