-- `aipsio::numbers::number` meets its contract: a number above the range is refused, and 0.
use Rattle.aipsio_rules.proofs.Bounds.{at_most, ranged_le}
use Rattle.aipsio.proofs.numbers.number.Goals as goal

pub returns : goal.returns
returns c = at_most (ranged_le _ _ _ _ _ 3) c.ranged.ensures
