-- `incremental::index::rows_rise` meets its contract. The loop's invariant: the first rows that are left decide.
use Rattle.incremental.proofs.index.Rising.{rise_not, rise_end, rise_out, rise_again}
use Rattle.incremental.proofs.index.rows_rise.Goals as goal

pub returns-then-number-ne0 : goal.returns-then-number-ne0
returns-then-number-ne0 c = rise_not _ _ _ _ _ _ c.number.ensures c.if-number-ne0.true

pub returns-then-v-last : goal.returns-then-v-last
returns-then-v-last c = rise_out _ _ _ _ _ _ c.number.ensures c.if-number-ne0.false c.loop-i.i c.loop-i.last c.loop-i.invariant c.loop-i-test.true (rw c.bytes-size.ensures.0 at c.number-v.ensures) c.if-v-last.true

pub loop-i-preserved : goal.loop-i-preserved
loop-i-preserved c = rise_again _ _ _ _ _ _ c.loop-i.i c.loop-i.last c.loop-i.invariant c.loop-i-test.true (rw c.bytes-size.ensures.0 at c.number-v.ensures) c.if-v-last.false

pub returns : goal.returns
returns c = rise_end _ _ _ _ _ _ c.number.ensures c.if-number-ne0.false c.loop-i.i c.loop-i.last c.loop-i.invariant c.loop-i-test.false
