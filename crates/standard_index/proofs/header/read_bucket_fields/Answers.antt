-- `standard_index::header::read_bucket_fields` meets its contract: its calls compose as the definition says, and a uInt is below 2^32.
use mathlib.Core.Path.{refl}
use Rattle.bytes_at.proofs.Stepped.{via}
use Rattle.standard_rules.specs.Header.{bucket_fields_at}
use Rattle.standard_index.proofs.header.read_bucket_fields.Goals as goal

pub returns : goal.returns
unfolding bucket_fields_at
returns c = record {
  value = via _ c.open-o.ensures (
      via _ c.flag-flag.ensures.value (
      via _ c.same_endian-same.ensures (
      via _ c.judge-d.ensures (
      via _ c.number-size.ensures.value (
      via _ c.number-count.ensures.value (
      via _ c.uint-cache.ensures.value (
      via _ c.uint-free.ensures.value (
      via _ c.uint-first.ensures.value (
      refl)))))))));
  words = (c.uint-free.ensures.bounded, c.uint-first.ensures.bounded);
}
