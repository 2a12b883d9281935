-- `incremental::cells::Search::read_entry` meets its contract: its calls compose as the definition says.
use mathlib.Core.Path.{refl}
use Rattle.incremental.proofs.cells.Turns.{bucket_here, bucket_past, bucket_off}
use Rattle.incremental.proofs.cells.Search.read_entry.Goals as goal

pub returns-then-one-ne0 : goal.returns-then-one-ne0
returns-then-one-ne0 c = bucket_off _ _ _ _ _ _ _ _ refl c.uint-b.ensures.value c.first_row-first.ensures c.first_row.ensures refl c.saturating_sub-rows.ensures c.saturating_sub-local.ensures c.read_bucket-one.ensures.value c.if-one-ne0.true c.refusal.ensures

pub returns-then-self-first : goal.returns-then-self-first
returns-then-self-first c = bucket_past _ _ _ _ _ _ _ _ refl c.uint-b.ensures.value c.first_row-first.ensures c.first_row.ensures refl c.saturating_sub-rows.ensures c.saturating_sub-local.ensures c.read_bucket-one.ensures.value c.if-one-ne0.false c.if-self-first.true

pub returns : goal.returns
returns c = bucket_here _ _ _ _ _ _ _ _ refl c.uint-b.ensures.value c.first_row-first.ensures c.first_row.ensures refl c.saturating_sub-rows.ensures c.saturating_sub-local.ensures c.read_bucket-one.ensures.value c.if-one-ne0.false c.if-self-first.false
