-- `two_places::place_by` meets its contract.
use Rattle.lookup_rules.specs.declared.Asked.TheVariants.{Position, Planned}
use Rattle.two_places.proofs.Carried.{carried_there}
use Rattle.two_places.proofs.place_by.Goals as goal

pub returns-in-Position-clause-there : goal.returns-in-Position-clause-there
returns-in-Position-clause-there c = rw c.in-Position.is (carried_there _ _ _ _ (Position _) c.place.ensures.value.0)

pub returns-in-Planned-clause-there : goal.returns-in-Planned-clause-there
returns-in-Planned-clause-there c = rw c.in-Planned.is (carried_there _ _ _ _ (Planned _) c.place_planned.ensures.value.0)
