-- `incremental::index::index_fits` meets its contract, on either side of its test.
use mathlib.Core.Path.{sym, ◌∙◌}
use Rattle.incremental_rules.specs.Index.{index_fits}
use Rattle.incremental.proofs.index.Rising.{firsts_by}
use Rattle.incremental.proofs.index.index_fits.Goals as goal

pub returns-then-buckets_apart : goal.returns-then-buckets_apart
unfolding index_fits
returns-then-buckets_apart c =
    let e = c.requires.same in
    rw (← e.0, ← e.1, sym c.buckets_apart.ensures ∙ c.if-buckets_apart.true) (firsts_by c.args.x c.of_int-width.ensures _ _ _ c.rows_rise.ensures)

pub returns-else-buckets_apart : goal.returns-else-buckets_apart
unfolding index_fits
returns-else-buckets_apart c =
    let e = c.requires.same in
    rw (← e.0, ← e.1, sym c.buckets_apart.ensures ∙ c.if-buckets_apart.false) c.if-buckets_apart.false
