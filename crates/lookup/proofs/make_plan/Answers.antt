-- `lookup::make_plan` meets its contract.
use Rattle.lookup_rules.proofs.Said.{says_of}
use Rattle.lookup.proofs.make_plan.Goals as goal

pub returns-clause-says : goal.returns-clause-says
returns-clause-says c =
    let says = says_of _ _ _ _ c.ask-a.ensures.0 in
    rw (c.planned.ensures, ← c.ask-a.ensures.0) (says.planned, says.plan)
