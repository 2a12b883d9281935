-- `standard_index::rows::LastRows::find_entry` meets its contract. The loop's invariant: the rule, over the entries that are still possible,
-- gives what it gives over all, and the looks that are left are enough to leave one entry.
use native.Mathlib.Omega.{arith}
use Rattle.standard_index.proofs.rows.Halving.{bounded_start, bounded_down, bounded_up, bounded_one, bounded_end}
use Rattle.standard_index.proofs.rows.LastRows.find_entry.Goals.{then-row-found, else-row-found}
use Rattle.standard_index.proofs.rows.LastRows.find_entry.Goals as goal

pub loop-looks-init : goal.loop-looks-init
loop-looks-init c = bounded_start _ _ _ _ _ _ _ (omega arith) c.bit_length-most.ensures

pub returns-then-last-first : goal.returns-then-last-first
returns-then-last-first c = bounded_one c.loop-looks.invariant c.bit_length-most.ensures (omega (arith, c.if-last-first.true))

pub loop-looks-preserved : goal.loop-looks-preserved
loop-looks-preserved c = elim c.if-row-found.branch [
  | then-row-found w ↦ rw (w.first-is, w.last-is) (bounded_down c.loop-looks.invariant c.loop-looks-test.true c.if-last-first.false c.last_row-found.ensures w.if-row-found.true)
  | else-row-found w ↦ rw (w.first-is, w.last-is) (bounded_up c.loop-looks.invariant c.loop-looks-test.true c.if-last-first.false c.last_row-found.ensures w.if-row-found.false)
]

pub returns : goal.returns
returns c = bounded_end c.loop-looks.invariant c.bit_length-most.ensures c.loop-looks-test.false
