-- `standard::sets::mark_sets` meets its contract. The loop's invariant: the sets that are left decide.
use native.Mathlib.Omega.{arith}
use Rattle.buckets.proofs.marks.Marking.{marking_end, part_more, part_stop}
use Rattle.standard.proofs.sets.Sets.{data_none, data_more}
use Rattle.standard.proofs.sets.mark_sets.Goals as goal

pub returns-then-not-add_numbers : goal.returns-then-not-add_numbers
returns-then-not-add_numbers c = part_stop c.loop-s.invariant _ _ (data_more c.args.big c.args.text.now c.args.sets.now c.loop-s.s-index (omega arith)) c.add_numbers.ensures c.if-not-add_numbers.true

pub loop-s-preserved : goal.loop-s-preserved
loop-s-preserved c = part_more c.loop-s.invariant _ _ (data_more c.args.big c.args.text.now c.args.sets.now c.loop-s.s-index (omega arith)) c.add_numbers.ensures c.if-not-add_numbers.false

pub returns : goal.returns
returns c = marking_end c.loop-s.invariant (data_none c.args.big c.args.text.now c.args.sets.now c.loop-s.s-index (omega arith))
