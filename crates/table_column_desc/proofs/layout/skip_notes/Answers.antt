-- `table_column_desc::layout::skip_notes` meets its contract: its calls compose as the definition says.
use mathlib.Core.Path.{refl}
use Rattle.bytes_at.proofs.Stepped.{via}
use Rattle.table_rules.specs.ColumnDesc.{notes_at}
use Rattle.table_column_desc.proofs.layout.skip_notes.Goals as goal

pub returns : goal.returns
unfolding notes_at
returns c =
    via _ c.string-comment.ensures.value (
    via _ c.string-manager.ensures.value (
    via _ c.string-group.ensures.value (
    refl)))
