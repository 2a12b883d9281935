-- `lookup_stages::planning::find_target` meets its contract: its calls compose as the definition says.
use mathlib.Core.Path.{refl}
use Rattle.bytes_at.proofs.Stepped.{via}
use Rattle.lookup_stages.specs.Stages.{target_by}
use Rattle.lookup_stages.proofs.planning.find_target.Goals as goal

pub returns : goal.returns
unfolding target_by
returns c =
    via _ c.is_column-known.ensures (
    via _ c.stage-r1.ensures (
    via _ c.sequence_for-sequence.ensures (
    via _ c.kind_with-kind.ensures (
    via _ c.is_placed-placed.ensures (
    via _ c.is_held-held.ensures (
    via _ c.stage-r2.ensures (
    via _ c.is_incremental-incremental.ensures
    refl)))))))
