-- `buckets::marks::Marks::add_numbers` meets its contract. The loop's invariant: the numbers that are left decide.
use native.Mathlib.Omega.{arith}
use Rattle.buckets.proofs.marks.Marking.{marking_more, marking_stop, marking_end, numbers_turn, numbers_end}
use Rattle.buckets.proofs.marks.Marks.add_numbers.Goals as goal

pub returns-then-not-add : goal.returns-then-not-add
returns-then-not-add c = marking_stop c.loop-i.invariant (numbers_turn _ _ _ _ _ _ (omega arith) c.uint_there.ensures.value) c.add.ensures.0 c.if-not-add.true

pub loop-i-preserved : goal.loop-i-preserved
loop-i-preserved c = marking_more c.loop-i.invariant (numbers_turn _ _ _ _ _ _ (omega arith) c.uint_there.ensures.value) c.add.ensures.0 c.if-not-add.false c.add.ensures.1

pub returns : goal.returns
returns c = marking_end c.loop-i.invariant (numbers_end _ _ _ _ _ (omega arith))
