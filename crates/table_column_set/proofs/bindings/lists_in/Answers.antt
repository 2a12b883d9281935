-- `table_column_set::bindings::lists_in` meets its contract: its calls compose as the definition says.
use Rattle.bytes_at.proofs.Stepped.{via}
use native.Mathlib.Omega.{arith}
use Rattle.table_rules.specs.ColumnSet.{lists_in}
use Rattle.table_column_set.proofs.bindings.lists_in.Goals as goal

pub overflow_mul-n : goal.overflow_mul-n
overflow_mul-n c = omega arith

pub overflow_mul-n-2 : goal.overflow_mul-n-2
overflow_mul-n-2 c = omega arith

pub returns : goal.returns
unfolding lists_in
returns c = via _ c.judge-d.ensures (rw c.saturating_sub.ensures)
