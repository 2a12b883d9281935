-- `table_rules::data_type::DataType::bare_name` meets its contract: each arm computes, and another number has no name.
use Rattle.bytes_at.specs.Lists.{first_from}
use Rattle.table_rules.specs.DataType.{type_place, type_name}
use Rattle.table_rules.proofs.data_type.Table.{no_name}
use Rattle.table_rules.proofs.data_type.DataType.bare_name.Goals as goal

pub returns-in_default-clause-value : goal.returns-in_default-clause-value
unfolding type_name type_place first_from
returns-in_default-clause-value c = no_name _ c.in_default.in_default-own.rest
