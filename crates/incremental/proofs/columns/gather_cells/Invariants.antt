-- `incremental::columns::gather_cells` meets its contract. The loop's invariant: after k turns the columns are the definition's after k turns.
use Prim.Native.Nat.{◌≤◌}
use mathlib.Core.Path.{◌≡◌}
use lib.ListN.{length}
use Rattle.std.proofs.Common.{drop}
use Rattle.bytes_at.specs.Steps.{after}
use Rattle.incremental_rules.specs.Bucket.{cell_into, no_cells}
use Rattle.incremental.proofs.columns.gather_cells.Given as goal

abbrev pub invariant-loop-k : goal.invariant-loop-k
invariant-loop-k l =
    let k = l.k-iterator.count in
    (goal.iterator-loop-k).can_next l.k-iterator × (goal.iterator-loop-k).is_finite l.k-iterator
    × (k ≤ length l.columns)
    × (l.k-iterator.iter.a.rest.now ≡ drop k l.columns)
    × (l.k-iterator.iter.b.rest.now ≡ drop k l.bindings)
    × (l.cells.count ≤ k)
    × (l.cells ≡ after (cell_into l.columns l.bindings l.sequence l.position) no_cells k)
