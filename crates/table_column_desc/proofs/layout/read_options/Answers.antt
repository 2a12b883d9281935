-- `table_column_desc::layout::read_options` meets its contract: its calls compose as the definition says.
use native.Mathlib.Omega.{arith}
use Rattle.bytes_at.proofs.Stepped.{via}
use Rattle.table_rules.specs.ColumnDesc.{options_at}
use Rattle.table_column_desc.proofs.layout.read_options.Goals as goal

pub returns : goal.returns
unfolding options_at
returns c = record {
  value = via _ c.code-o.ensures.value (
      via _ c.options_fit-ok.ensures (
      via _ c.judge-d.ensures c.settle.ensures.value));
  bounded = omega (arith, c.settle.ensures.bounded, c.code-o.ensures.bounded);
}
