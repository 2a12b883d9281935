-- `incremental_bucket::read_bucket` meets its contract: its calls compose as the definition says, and the offset lies in the bucket.
use native.Mathlib.Omega.{arith}
use Rattle.bytes_at.proofs.Stepped.{via}
use Rattle.aipsio_rules.proofs.Bounds.{at_most}
use Rattle.incremental_rules.specs.Bucket.{bucket_at}
use Rattle.incremental_bucket.proofs.Bounds.{bucket_le}
use Rattle.incremental_bucket.proofs.Ends.{head_of_end}
use Rattle.incremental_bucket.proofs.read_bucket.Goals as goal

pub read_columns-requires : goal.read_columns-requires
read_columns-requires c = omega (arith, head_of_end _ _ _ c.read_head-head.ensures, c.requires)

pub returns : goal.returns
unfolding bucket_at
returns c =
    let a = c.args in
    at_most (bucket_le a.f.now a.at a.size a.big a.rows a.row a.column a.bytes.now _) (
    via _ c.read_head-head.ensures (
    via _ c.of_int.ensures c.read_columns.ensures))
