-- `table_column_set::data_managers::first_number` meets its contract: what `position` finds is the first whose test passes.
use mathlib.Core.Path.{◌≡◌, ◌∙◌}
use mathlib.Core.Bool.{Bool}
use borrow.Author.Rules.{rules}
use borrow.Author.Tests.{tests}
use lib.Dec.{eqb}
use Rattle.std.specs.List.{position}
use Rattle.std.proofs.lemmas.Iterator.{YieldsList-from_slice}
use Rattle.std.proofs.lemmas.Iterator.Search.{position_from_yields_List}
use Rattle.table_rules.specs.declared.Manager.{Manager}
use Rattle.table_rules.specs.ColumnSet.{no_manager, first_number}
use Rattle.table_rules.proofs.Searches.{position_first}
use Rattle.table_column_set.proofs.data_managers.first_number.Goals as goal

pub returns-clause-value : goal.returns-clause-value
unfolding first_number
returns-clause-value c =
    let test : Manager → Bool = λ m. eqb m.number c.args.number in
    let found : c.position.result ≡ position test c.args.managers.now =
    position_from_yields_List test _ _ _ c.position.ensures.ran (YieldsList-from_slice c.args.managers.now cc) (λ x b q k. search (rules, tests)) in
    c.unwrap_or.ensures ∙ rw found (position_first test no_manager _)
