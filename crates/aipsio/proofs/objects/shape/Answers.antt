-- `aipsio::objects::shape` meets its contract: its calls compose as the definition says, and no product is above the range.
use Rattle.bytes_at.proofs.Stepped.{via}
use Rattle.aipsio_rules.specs.Object.{shape_at}
use Rattle.aipsio_rules.proofs.Bounds.{at_most}
use Rattle.aipsio_rules.proofs.ObjectBounds.{shape_le}
use Rattle.aipsio.proofs.objects.shape.Goals as goal

pub returns : goal.returns
unfolding shape_at
returns c =
    at_most (shape_le _ _ _) (
    via _ c.open-o.ensures (
    via _ c.number-n.ensures.value (
    via _ c.judge-k.ensures (
    via _ c.of_int-width.ensures (
    via _ c.axes-product.ensures.value (
    via _ c.close-d.ensures c.settle.ensures.value))))))
