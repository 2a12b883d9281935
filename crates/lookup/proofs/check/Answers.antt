-- `lookup::check` meets its contract.
use Rattle.lookup_rules.proofs.Said.{says_of}
use Rattle.lookup.proofs.check.Goals as goal

pub returns-clause-says : goal.returns-clause-says
returns-clause-says c =
    let says = says_of _ _ _ _ c.ask-a.ensures.0 in
    rw (c.verdict.ensures, ← c.ask-a.ensures.0) says.verdict
