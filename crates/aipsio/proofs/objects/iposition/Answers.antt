-- `aipsio::objects::iposition` meets its contract: its calls compose as the definition says.
use Rattle.bytes_at.proofs.Stepped.{via}
use Rattle.aipsio_rules.specs.Object.{iposition_at}
use Rattle.aipsio_rules.proofs.Bounds.{bytes_some}
use Rattle.aipsio.proofs.objects.iposition.Goals as goal

pub skip_each-e-requires : goal.skip_each-e-requires
skip_each-e-requires c = bytes_some c.of_int-width.result c.bytes.ensures.0

pub returns : goal.returns
unfolding iposition_at
returns c =
    via _ c.open-o.ensures (
    via _ c.uint-n.ensures.value (
    via _ c.of_int-width.ensures (
    via _ c.bytes.ensures.0 (
    via _ c.skip_each-e.ensures c.close.ensures))))
