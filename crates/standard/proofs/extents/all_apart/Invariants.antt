-- `standard::extents::all_apart` meets its contract. The loop's invariant: the extents that are left decide.
use mathlib.Core.Path.{◌≡◌}
use lib.ListN.{drop}
use Rattle.bytes_at.specs.Lists.{pairs}
use Rattle.standard_rules.specs.Map.{clear}
use Rattle.standard.proofs.extents.all_apart.Given as goal

abbrev pub invariant-loop-i : goal.invariant-loop-i
invariant-loop-i l = pairs clear l.extents ≡ pairs clear (drop l.i l.extents)
