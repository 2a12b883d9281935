-- `two_places::two_places` meets its contract.
use Rattle.two_places.proofs.Carried.{carried}
use Rattle.two_places.proofs.two_places.Goals as goal

pub returns-clause-demanded : goal.returns-clause-demanded
returns-clause-demanded c = carried _ _ _ _ _ _ _ _ c.place_by-one.ensures.value.0 c.place_by-other.ensures.value.0
