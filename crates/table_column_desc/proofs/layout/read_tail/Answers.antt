-- `table_column_desc::layout::read_tail` meets its contract: its calls compose as the definition says.
use native.Mathlib.Omega.{arith}
use Rattle.bytes_at.proofs.Stepped.{via}
use Rattle.table_rules.specs.ColumnDesc.{tail_at}
use Rattle.table_column_desc.proofs.layout.read_tail.Goals as goal

pub returns : goal.returns
unfolding tail_at
returns c = record {
  value = via _ c.number-m.ensures.value (
      via _ c.record-keywords.ensures (
      via _ c.version-v.ensures (
      via _ c.skip_default-d.ensures c.settle.ensures.value)));
  bounded = omega (arith, c.settle.ensures.bounded, c.number-m.ensures.bounded);
}
