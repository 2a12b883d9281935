-- `standard::sets::mark_sets` meets its contract. The loop's invariant: the sets that are left decide.
use mathlib.Core.List.{map}
use lib.ListN.{drop}
use Rattle.buckets.proofs.marks.Marking.{Marking}
use Rattle.standard_rules.specs.Map.{map_set, data_of}
use Rattle.standard.proofs.sets.mark_sets.Given as goal

abbrev pub invariant-loop-s : goal.invariant-loop-s
invariant-loop-s l =
    Marking l.buckets.count l.initial.seen.seen (data_of (map (map_set l.big l.text) l.sets)) l.seen.seen (data_of (map (map_set l.big l.text) (drop l.s-index l.sets)))
