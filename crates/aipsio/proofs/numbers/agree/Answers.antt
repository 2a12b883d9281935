-- `aipsio::numbers::agree` meets its contract: its calls compose as the definition says.
use mathlib.Core.Path.{refl}
use Rattle.bytes_at.proofs.Stepped.{via}
use Rattle.aipsio_rules.specs.Field.{agreed}
use Rattle.aipsio.proofs.numbers.agree.Goals as goal

pub returns : goal.returns
unfolding agreed
returns c =
    via _ c.ranged.ensures (
    refl)
