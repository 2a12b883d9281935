-- `standard_index::chain::gather_index` meets its contract: either way fills the front of zeros.
use Rattle.std.proofs.Common.{rules}
use Rattle.standard_index.proofs.chain.Room.{index_chain, index_bucket}
use Rattle.standard_index.proofs.chain.gather_index.Goals as goal

pub returns-then-h-eq0 : goal.returns-then-h-eq0
returns-then-h-eq0 c =
    index_chain _ _ _ _ _ _ _ c.args.buckets.area _ (search rules) (search rules) c.if-h-eq0.true c.gather_chain.ensures.0 c.gather_chain.ensures.1

pub returns : goal.returns
returns c =
    index_bucket _ _ _ _ _ _ _ c.args.buckets.area _ (search rules) (search rules) c.if-h-eq0.false c.gather_bucket.ensures.0 c.gather_bucket.ensures.1
