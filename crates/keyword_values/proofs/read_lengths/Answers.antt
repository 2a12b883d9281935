-- `keyword_values::read_lengths` meets its contract. The loop's invariant: after i turns the product is the definition's.
use native.Mathlib.Omega.{arith}
use borrow.Author.Tests.{ne_eqb}
use Rattle.bytes_at.proofs.Loops.{after_none, after_more, after_all}
use Rattle.keyword_rules.specs.Values.{lengths_at}
use Rattle.keyword_rules.proofs.Turns.{lengths_stop}
use Rattle.keyword_values.proofs.read_lengths.Goals as goal

pub returns-then-n-eq0 : goal.returns-then-n-eq0
unfolding lengths_at
returns-then-n-eq0 c = rw c.if-n-eq0.true (after_none _ _)

pub loop-i-init : goal.loop-i-init
loop-i-init c = after_none _ _

pub returns-then-product-ne0 : goal.returns-then-product-ne0
unfolding lengths_at
returns-then-product-ne0 c = rw (ne_eqb _ 0 c.if-n-eq0.false) (lengths_stop _ _ _ _ c.loop-i.invariant (omega arith) c.if-product-ne0.true)

pub loop-i-preserved : goal.loop-i-preserved
loop-i-preserved c = after_more _ _ _ c.loop-i.invariant c.add_length-product.ensures

pub returns : goal.returns
unfolding lengths_at
returns c = rw (ne_eqb _ 0 c.if-n-eq0.false) (after_all _ _ _ _ c.loop-i.invariant (omega arith) (omega arith))
