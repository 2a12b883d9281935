-- `table_column_set::info::skip_own_shape` meets its contract, in each branch.
use borrow.Author.Tests.{eq-eqb, ne_eqb}
use Rattle.bytes_at.proofs.Stepped.{via}
use Rattle.table_rules.specs.ColumnSet.{own_shape_at}
use Rattle.table_column_set.proofs.info.skip_own_shape.Goals as goal

pub returns-then-own-eq0 : goal.returns-then-own-eq0
unfolding own_shape_at
returns-then-own-eq0 c = rw c.if-not-array.false (via _ c.flag-own.ensures.value (rw (eq-eqb _ 0 c.if-own-eq0.true)))

pub returns-else-own-eq0 : goal.returns-else-own-eq0
unfolding own_shape_at
returns-else-own-eq0 c = rw c.if-not-array.false (via _ c.flag-own.ensures.value (rw (ne_eqb _ 0 c.if-own-eq0.false) c.iposition.ensures))
