-- `standard_index::header::read_index_fields` meets its contract: its calls compose as the definition says, and a uInt is below 2^32.
use mathlib.Core.Path.{refl}
use Rattle.bytes_at.proofs.Stepped.{via}
use Rattle.standard_rules.specs.Header.{index_fields_at}
use Rattle.standard_index.proofs.header.read_index_fields.Goals as goal

pub returns : goal.returns
unfolding index_fields_at
returns c = record {
  value = via _ c.uint-count.ensures.value (
      via _ c.uint-first.ensures.value (
      via _ c.uint-offset.ensures.value (
      via _ c.offset_fits-ok.ensures (
      via _ c.judge-d.ensures (
      via _ c.uint-heap.ensures.value (
      via _ c.number-len.ensures.value (
      via _ c.number-sets.ensures.value (
      refl))))))));
  words = (c.uint-count.ensures.bounded, c.uint-first.ensures.bounded, c.uint-offset.ensures.bounded);
}
