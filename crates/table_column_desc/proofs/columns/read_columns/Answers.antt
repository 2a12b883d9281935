-- `table_column_desc::columns::read_columns` meets its contract. The loop's invariant: after i turns the state is the definition's after i turns.
use mathlib.Core.Path.{refl}
use native.Mathlib.Omega.{arith}
use Rattle.bytes_at.proofs.Loops.{after_none, after_more, after_all}
use Rattle.bytes_at.proofs.Stepped.{via}
use Rattle.table_rules.specs.ColumnDesc.{no_column, column_into, columns_at}
use Rattle.table_column_desc.proofs.columns.Taken.{taken_is}
use Rattle.table_column_desc.proofs.columns.read_columns.Goals as goal

pub loop-i-init : goal.loop-i-init
unfolding no_column
loop-i-init c = after_none _ _

pub loop-i-preserved : goal.loop-i-preserved
unfolding column_into
loop-i-preserved c =
    after_more _ _ _ c.loop-i.invariant (
    via _ c.read_head-head.ensures.value (
    via _ c.part-name.ensures.value (
    via _ refl (
    via _ (rw (taken_is _ _ _ _ (omega arith) c.is_taken-taken.ensures) at c.judge-d.ensures) (
    via _ c.read_column-read.ensures (
    refl))))))

pub returns : goal.returns
unfolding columns_at
returns c = after_all _ _ _ _ c.loop-i.invariant (omega arith) (omega arith)
