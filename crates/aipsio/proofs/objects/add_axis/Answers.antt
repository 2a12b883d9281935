-- `aipsio::objects::add_axis` meets its contract: its calls compose as the definition says, and a product above the range is refused.
use Rattle.bytes_at.proofs.Stepped.{via}
use Rattle.aipsio_rules.specs.Object.{axis_into}
use Rattle.aipsio_rules.proofs.Bounds.{at_most}
use Rattle.aipsio_rules.proofs.ObjectBounds.{axis_le, product_fits}
use Rattle.aipsio.proofs.objects.add_axis.Goals as goal

pub overflow_mul-more : goal.overflow_mul-more
overflow_mul-more c = product_fits c.requires c.number-axis.ensures.bounded

pub returns : goal.returns
unfolding axis_into
returns c =
    at_most (axis_le _ _ _) (
    via _ c.number-axis.ensures.value (
    via _ c.judge-d.ensures c.settle.ensures.value))
