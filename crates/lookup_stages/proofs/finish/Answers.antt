-- `lookup_stages::finish` meets its contract: its calls compose as the definition says.
use mathlib.Core.Path.{refl}
use Rattle.bytes_at.proofs.Stepped.{via}
use Rattle.lookup_rules.specs.Questions.{stages_after}
use Rattle.lookup_stages.proofs.finish.Goals as goal

pub returns : goal.returns
unfolding stages_after
returns c = record {
  value = via _ c.plan_for-p.ensures.value
      (via _ c.fresh-fresh.ensures
      (via _ c.stage-r1.ensures
      (via _ c.below-below.ensures
      (via _ c.stage-r2.ensures
      (via _ c.seen-seen.ensures
      (via _ c.stage-r3.ensures
      refl))))));
  bounded = c.plan_for-p.ensures.bounded;
}
