-- `lookup::place_in_bucket` meets its contract.
use Rattle.lookup_rules.proofs.OneBucket.{every_one_bucket}
use Rattle.lookup_rules.proofs.Said.{says_of}
use Rattle.lookup.proofs.place_in_bucket.Goals as goal

pub returns-clause-says : goal.returns-clause-says
returns-clause-says c =
    let says = says_of _ _ _ _ c.ask-a.ensures.0 in
    rw (c.placed_in_bucket.ensures, ← c.ask-a.ensures.0) (says.in_bucket, says.in_bucket_bits, says.in_bucket_size)

pub returns-clause-one : goal.returns-clause-one
returns-clause-one c = every_one_bucket _ _ _ _ _
