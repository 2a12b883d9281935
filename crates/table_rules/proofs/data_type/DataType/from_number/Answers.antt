-- `table_rules::data_type::DataType::from_number` meets its contract: the numbers of the table, and no other.
use native.Mathlib.Omega.{arith}
use Rattle.table_rules.proofs.data_type.Table.{numbered, not_numbered}
use Rattle.table_rules.proofs.data_type.DataType.from_number.Goals as goal

pub returns-in-0 : goal.returns-in-0
returns-in-0 c = numbered _ (record { not_1 = grind arith; last = grind arith })

pub returns-in_default : goal.returns-in_default
returns-in_default c = not_numbered _ (λ h. grind (arith, h.last, h.not_1))

pub returns-in_default-2 : goal.returns-in_default-2
returns-in_default-2 c = not_numbered _ (λ h. grind (arith, h.last, h.not_1))
