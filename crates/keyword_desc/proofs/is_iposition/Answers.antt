-- `keyword_desc::is_iposition` meets its contract: its calls compose as the definition says.
use mathlib.Core.Path.{refl}
use Rattle.bytes_at.proofs.Stepped.{via}
use Rattle.keyword_rules.specs.RecordDesc.{is_iposition}
use Rattle.keyword_desc.proofs.is_iposition.Goals as goal

pub returns : goal.returns
unfolding is_iposition
returns c =
    via _ c.skip-d.ensures (
    via _ c.name-e.ensures (
    refl))
