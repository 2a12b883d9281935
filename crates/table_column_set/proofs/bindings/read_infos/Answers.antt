-- `table_column_set::bindings::read_infos` meets its contract. The loop's invariant: after j turns the state is the definition's after j turns.
use mathlib.Core.Path.{refl}
use native.Mathlib.Omega.{arith}
use Rattle.bytes_at.proofs.Loops.{after_none, after_more, after_all}
use Rattle.bytes_at.proofs.Stepped.{via}
use Rattle.table_rules.specs.ColumnSet.{info_into, infos_at, no_manager}
use Rattle.table_column_set.proofs.bindings.read_infos.Goals as goal

pub loop-j-init : goal.loop-j-init
loop-j-init c = after_none _ _

pub read_info-one-requires : goal.read_info-one-requires
read_info-one-requires c = c.requires.1 _

pub loop-j-preserved : goal.loop-j-preserved
unfolding info_into no_manager
loop-j-preserved c = after_more _ _ _ c.loop-j.invariant (via _ c.read_info-one.ensures refl)

pub returns : goal.returns
unfolding infos_at
returns c = after_all _ _ _ _ c.loop-j.invariant (omega arith) (omega arith)
