-- `table::names::column_by_name` meets its contract: what `position` finds is the first column with the name.
use mathlib.Core.Path.{◌≡◌, ◌∙◌}
use mathlib.Core.Bool.{Bool}
use native.Mathlib.Omega.{arith}
use borrow.Author.Rules.{rules}
use borrow.Author.Tests.{tests}
use lib.ListN.{take}
use Rattle.std.specs.List.{position}
use Rattle.table_rules.specs.declared.Column.{Column}
use Rattle.std.proofs.lemmas.Iterator.{YieldsList-from_slice}
use Rattle.std.proofs.lemmas.Iterator.Search.{position_from_yields_List}
use Rattle.table.proofs.names.Named.{has_name, not_described, sought}
use Rattle.table.proofs.names.column_by_name.Goals as goal

pub returns-then-d-ne0 : goal.returns-then-d-ne0
returns-then-d-ne0 c = not_described _ _ _ c.describe-d.ensures.value c.if-d-ne0.true

pub returns : goal.returns
returns c =
    let test : Column → Bool = has_name c.args.s.now c.args.name.now in
    let found : c.position.result ≡ position test (take c.describe-d.result.column_count c.describe-d.result.columns) =
    position_from_yields_List test _ _ _ c.position.ensures.ran (YieldsList-from_slice _ cc) (λ x b q k. search (rules, tests)) in
    c.ok_or.ensures.value ∙ sought _ _ _ c.describe-d.ensures.value c.if-d-ne0.false (omega (arith, c.describe-d.ensures.bounded)) found
