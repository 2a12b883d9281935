-- `table_rules::data_type::DataType::from_name` meets its contract: the one type whose name the bytes can be, or none.
use borrow.Author.Rules.{rules}
use Rattle.table_rules.proofs.data_type.Candidate.{filtered}
use Rattle.table_rules.proofs.data_type.DataType.from_name.Goals as goal

pub returns : goal.returns
returns c = filtered _ _ c.candidate.ensures c.from_number.ensures _ (λ t b h. search rules) c.filter.ensures
