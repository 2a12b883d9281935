-- `lookup_stages::planning::plan_for` meets its contract: its calls compose as the definition says.
use native.Mathlib.Omega.{arith}
use mathlib.Core.Path.{refl}
use Rattle.bytes_at.proofs.Stepped.{via}
use Rattle.lookup_rules.specs.Questions.{plan_for}
use Rattle.lookup_stages.proofs.planning.plan_for.Goals as goal

pub returns : goal.returns
unfolding plan_for
returns c = record {
  value = via _ c.bits_in-bits.ensures.value
      (via _ c.if_standard-set.ensures.value
      (via _ c.if_standard-offset.ensures.value
      (via _ c.if_standard-per.ensures.value
      refl)));
  bounded = (omega (arith, c.if_standard-offset.ensures.bounded), c.bits_in-bits.ensures.bounded);
}
