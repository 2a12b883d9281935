-- `keywords::walk::walk` meets its contract, the one function of its cycle of calls. The measure is the levels left. The loop's invariant:
-- the walk stands where the definition does after i fields.
use mathlib.Core.Path.{refl, sym, ◌∙◌}
use native.Mathlib.Omega.{arith}
use Rattle.bytes_at.proofs.Loops.{after_none, after_more, after_all}
use Rattle.bytes_at.proofs.Stepped.{via}
use Rattle.keyword_rules.specs.TableRecord.{field_once, walk_with}
use Rattle.keyword_rules.proofs.Levels.{into_on, into_stop, walk_none, walk_level}
use Rattle.keywords.proofs.walk.+walk.Goals as goal
use Rattle.keywords.proofs.walk.+walk.Goals.{then-asked, else-asked, else-loop-i-test, then-loop-i-test+then-w-ne0}

pub returns-then-deeper-eq0 : goal.returns-then-deeper-eq0
unfolding walk_with field_once
returns-then-deeper-eq0 t c = sym (walk_none _ _ _ _ _ _ _ c.if-deeper-eq0.true)

pub loop-i-init : goal.loop-i-init
unfolding walk_with field_once
loop-i-init t c = after_none _ _

pub loop-i-preserved : goal.loop-i-preserved
unfolding walk_with field_once
loop-i-preserved t c =
    after_more _ _ _ c.loop-i.invariant (
    into_on _ _ _ _ _ _ _ _ c.if-w-ne0.false (
    via _ c.read_head-f.ensures (
    via _ c.part.ensures.value (
    via _ c.name-q.ensures (
    via _ c.enter-inner.ensures (
    via _ c.walk-x.ensures (
    rw (← c.is_sought-asked.ensures, ← c.field_found-field.ensures) (
    via _ (elim c.if-asked.branch [
      | then-asked j ↦ rw (j.w-is, j.if-asked.true)
      | else-asked j ↦ rw (j.w-is, j.if-asked.false)
    ]) (
    via _ c.skip_comment.ensures (
    via _ c.judge.ensures (
    refl)))))))))))

pub returns : goal.returns
unfolding walk_with field_once
returns t c =
    via _ (elim c.loop-i-test.branch [
      | else-loop-i-test w ↦ after_all _ _ _ _ c.loop-i.invariant (omega arith) (omega (arith, w.loop-i-test.false))
      | then-loop-i-test+then-w-ne0 w ↦ into_stop _ _ _ _ _ _ _ _ _ c.loop-i.invariant (omega arith) w.if-w-ne0.true
    ]) (
    via _ c.leave.ensures (
    refl))
    ∙ sym (walk_level _ _ _ _ _ _ _ c.if-deeper-eq0.false)
