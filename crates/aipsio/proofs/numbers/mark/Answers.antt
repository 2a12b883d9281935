-- `aipsio::numbers::mark` meets its contract: its calls compose as the definition says.
use mathlib.Core.Path.{refl}
use Rattle.bytes_at.proofs.Stepped.{via}
use Rattle.aipsio_rules.specs.Field.{mark_at}
use Rattle.aipsio.proofs.numbers.mark.Goals as goal

pub returns : goal.returns
unfolding mark_at
returns c =
    via _ c.ranged.ensures (
    refl)
