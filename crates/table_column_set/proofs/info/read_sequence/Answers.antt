-- `table_column_set::info::read_sequence` meets its contract: its calls compose as the definition says, and a uInt is below 2^32.
use mathlib.Core.Path.{refl}
use Rattle.bytes_at.proofs.Stepped.{via}
use Rattle.table_rules.specs.ColumnSet.{sequence_at}
use Rattle.table_column_set.proofs.info.read_sequence.Goals as goal

pub returns : goal.returns
unfolding sequence_at
returns c = record {
  value = via _ c.version-v.ensures (
      via _ c.string-name.ensures.value (
      via _ c.version-w.ensures (
      via _ c.uint-q.ensures.value (
      refl))));
  bounded = c.uint-q.ensures.bounded;
}
