-- `standard_index::chain::gather_chain` meets its contract. The loop's invariant: what is copied, and that the chain from here on decides.
use mathlib.Core.Path.{◌∙◌}
use native.Mathlib.Omega.{arith}
use Rattle.std.proofs.Common.{rules}
use Rattle.std.proofs.lemmas.Slice.{overwrites}
use Rattle.standard_index.proofs.chain.Gathered.{gathered_more, out_many, out_range, out_twice, out_end, out_right}
use Rattle.standard_index.proofs.chain.gather_chain.Goals as goal

pub returns-then-buckets-count : goal.returns-then-buckets-count
returns-then-buckets-count c = out_many _ _ _ _ _ _ c.args.buckets.area (omega arith)

pub returns-then-buckets-b : goal.returns-then-buckets-b
returns-then-buckets-b c = out_range c.loop-i.invariant (omega arith) (omega arith)

pub returns-then-next-again : goal.returns-then-next-again
returns-then-next-again c = out_twice c.loop-i.invariant (omega arith) (omega arith) c.start_of-p.ensures.0 c.uint-next.ensures.value c.uint-again.ensures.value c.if-next-again.true

pub loop-i-preserved : goal.loop-i-preserved
loop-i-preserved c = gathered_more c.loop-i.invariant c.args.buckets.area (omega arith) (omega arith) (omega arith) c.start_of-p.ensures.0 c.uint-next.ensures.value (c.if-next-again.false ∙ c.uint-again.ensures.value) (search rules) (search (rules, overwrites)) (search rules)

pub returns-then-b-eq-NO_BUCKET : goal.returns-then-b-eq-NO_BUCKET
returns-then-b-eq-NO_BUCKET c = out_right c.loop-i.invariant (omega arith) c.args.buckets.area c.if-b-eq-NO_BUCKET.true

pub returns-else-b-eq-NO_BUCKET : goal.returns-else-b-eq-NO_BUCKET
returns-else-b-eq-NO_BUCKET c = out_end c.loop-i.invariant (omega arith) c.if-b-eq-NO_BUCKET.false
