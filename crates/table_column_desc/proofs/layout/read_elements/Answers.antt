-- `table_column_desc::layout::read_elements` meets its contract: a shape that is not judged counts no elements.
use borrow.Author.Tests.{lt-leb}
use Rattle.bytes_at.proofs.Stepped.{via}
use Rattle.table_rules.specs.ColumnDesc.{elements_at}
use Rattle.table_column_desc.proofs.layout.read_elements.Goals as goal

pub returns-else-options-ge4-clause-value : goal.returns-else-options-ge4-clause-value
unfolding elements_at
returns-else-options-ge4-clause-value c =
    rw (c.if-not-array.false, lt-leb _ _ c.if-options-ge4.false) (via _ c.iposition.ensures c.settle-else-options-ge4.ensures.value)
