-- `buckets::marks::Marks::add_chain` meets its contract. The loop's invariant: the buckets that are left decide.
use mathlib.Core.Path.{refl}
use native.Mathlib.Omega.{arith}
use Rattle.buckets.proofs.Links.{links_turn, links_end}
use Rattle.buckets.proofs.marks.Marking.{marking_more, marking_stop, marking_end, fresh_below}
use Rattle.buckets.proofs.marks.Marks.add_chain.Goals as goal

pub returns-then-not-add : goal.returns-then-not-add
returns-then-not-add c = marking_stop c.loop-i.invariant (links_turn _ _ _ _ _ (omega arith) refl) c.add.ensures.0 c.if-not-add.true

pub next_of-b-requires : goal.next_of-b-requires
next_of-b-requires c = fresh_below _ c.add.ensures.0 c.if-not-add.false

pub loop-i-preserved : goal.loop-i-preserved
loop-i-preserved c = marking_more c.loop-i.invariant (links_turn _ _ _ _ _ (omega arith) c.next_of-b.ensures) c.add.ensures.0 c.if-not-add.false c.add.ensures.1

pub returns : goal.returns
returns c = marking_end c.loop-i.invariant (links_end _ _ _ _ (omega arith))
