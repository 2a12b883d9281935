-- `aipsio::objects::record` meets its contract: its calls compose as the definition says.
use Rattle.bytes_at.proofs.Stepped.{via}
use Rattle.aipsio_rules.specs.Object.{record_at}
use Rattle.aipsio.proofs.objects.record.Goals as goal

pub returns : goal.returns
unfolding record_at
returns c =
    via _ c.open-o.ensures c.pass.ensures
