-- `table_rules::data_type::DataType::bits_of` meets its contract: each arm computes, and no other number has a size.
use borrow.Author.Rules.{rules}
use Rattle.table_rules.specs.DataType.{element_bits}
use Rattle.table_rules.proofs.data_type.Sizes.{no_size}
use Rattle.table_rules.proofs.data_type.DataType.bits_of.Goals as goal

pub returns-in_default : goal.returns-in_default
unfolding element_bits
returns-in_default c = record { value = no_size _ c.in_default.in_default-own.rest; bounded = search rules }
