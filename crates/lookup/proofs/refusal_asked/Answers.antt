-- `lookup::refusal_asked` meets its contract.
use mathlib.Core.Path.{ap}
use Rattle.lookup_rules.specs.declared.Answer.{Answer}
use Rattle.lookup_rules.proofs.Texts.{told}
use Rattle.lookup.proofs.refusal_asked.Goals as goal

pub returns-clause-tells : goal.returns-clause-tells
returns-clause-tells c = told _ _ _ _ _ (ap (λ (a : Answer). a.refused) c.ask.ensures.0)
