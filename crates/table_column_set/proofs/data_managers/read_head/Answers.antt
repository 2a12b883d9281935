-- `table_column_set::data_managers::read_head` meets its contract: its calls compose as the definition says, and more than 16 managers are refused.
use mathlib.Core.Path.{refl}
use Rattle.bytes_at.proofs.Stepped.{via}
use Rattle.table_rules.specs.ColumnSet.{column_set_head_at}
use Rattle.table_column_set.proofs.data_managers.read_head.Goals as goal

pub returns : goal.returns
unfolding column_set_head_at
returns c = record {
  value = via _ c.version-v.ensures (
      via _ refl (
      via _ c.of_int-width.ensures (
      via _ c.number-r.ensures.value (
      via _ c.counts_agree-ok.ensures (
      via _ c.judge-k.ensures (
      via _ c.uint-highest.ensures.value (
      via _ c.number-n.ensures.value (
      refl))))))));
  bounded = c.number-n.ensures.bounded;
}
