-- `standard_index::rows::LastRows::fit` meets its contract. The loop's invariant: the rule of the last rows that are left is the rule of all.
use native.Mathlib.Omega.{arith}
use Rattle.standard_index.proofs.rows.Covering.{covering_again, covering_low, covering_past, covering_wide, covering_end}
use Rattle.standard_index.proofs.rows.LastRows.fit.Goals.{then-last-from-via-then-last-from, then-last-from-via-else-last-from+then-rows-last, then-last-from-via-else-last-from+else-rows-last+then-per-last}
use Rattle.standard_index.proofs.rows.LastRows.fit.Goals as goal

pub returns-then-last-from : goal.returns-then-last-from
returns-then-last-from c = elim c.then-last-from.branch [
  | then-last-from-via-then-last-from w ↦ covering_low c.loop-k.invariant (omega arith) c.last_row-last.ensures (omega arith)
  | then-last-from-via-else-last-from+then-rows-last w ↦ covering_past c.loop-k.invariant (omega arith) c.last_row-last.ensures (omega arith) (omega arith)
  | then-last-from-via-else-last-from+else-rows-last+then-per-last w ↦ covering_wide c.loop-k.invariant (omega arith) c.last_row-last.ensures (omega arith) (omega arith)
]

pub loop-k-preserved : goal.loop-k-preserved
loop-k-preserved c = covering_again c.loop-k.invariant (omega arith) c.last_row-last.ensures (omega arith) (omega arith)

pub returns : goal.returns
returns c = covering_end c.loop-k.invariant (omega arith)
