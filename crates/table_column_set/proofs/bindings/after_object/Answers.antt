-- `table_column_set::bindings::after_object` meets its contract: its calls compose as the definition says.
use mathlib.Core.Path.{refl}
use Rattle.bytes_at.proofs.Stepped.{via}
use Rattle.table_rules.specs.ColumnSet.{after_object}
use Rattle.table_column_set.proofs.bindings.after_object.Goals as goal

pub returns : goal.returns
unfolding after_object
returns c = via _ c.close.ensures refl
