-- `table::read_desc_head` meets its contract: its calls compose as the definition says.
use Rattle.bytes_at.specs.Steps.{◌>>=◌}
use Rattle.table_rules.specs.Table.{table_notes_at, table_desc_head_at}
use Rattle.table.proofs.read_desc_head.Goals as goal

pub returns : goal.returns
unfolding table_desc_head_at table_notes_at ◌>>=◌
returns c = record {
  value = rw (c.number-n.ensures.value, c.record-private.ensures, c.record-keywords.ensures, c.skip_notes-notes.ensures);
  bounded = c.number-n.ensures.bounded;
}
