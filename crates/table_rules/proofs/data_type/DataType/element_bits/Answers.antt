-- `table_rules::data_type::DataType::element_bits` meets its contract: the bits of its number.
use Rattle.table_rules.proofs.data_type.DataType.element_bits.Goals as goal

pub returns : goal.returns
returns c = record { value = c.bits_of.ensures.value; bounded = c.bits_of.ensures.bounded }
