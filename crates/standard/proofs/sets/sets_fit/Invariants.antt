-- `standard::sets::sets_fit` meets its contract. The loop's invariant: the sets that are left decide.
use mathlib.Core.Path.{◌≡◌}
use lib.ListN.{drop}
use Rattle.bytes_at.specs.Lists.{all}
use Rattle.standard_rules.specs.Map.{map_set, set_fits}
use Rattle.standard.proofs.sets.sets_fit.Given as goal

abbrev pub invariant-loop-s : goal.invariant-loop-s
invariant-loop-s l = all (λ s. set_fits l.rows (map_set l.big l.text s)) l.sets ≡ all (λ s. set_fits l.rows (map_set l.big l.text s)) (drop l.s-index l.sets)
