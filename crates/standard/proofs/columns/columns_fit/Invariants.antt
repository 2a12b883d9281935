-- `standard::columns::columns_fit` meets its contract. The loop's invariant: the first i columns are placed and counted.
use Rattle.standard.proofs.columns.Counting.{Counting}
use Rattle.standard.proofs.columns.Placing.{Placing, column_in}
use Rattle.standard.proofs.columns.columns_fit.Given as goal

abbrev pub invariant-loop-i : goal.invariant-loop-i
invariant-loop-i l =
    let f = column_in l.sequence l.d.columns l.d.bindings in
    (Placing f l.sets l.size l.extents l.i) × (Counting f l.n l.counts l.i)
