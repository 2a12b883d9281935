-- `incremental_bucket::read_columns` meets its contract. The loop's invariant: after k turns the state is the definition's after k turns.
use mathlib.Core.Path.{◌≡◌, refl, ◌∙◌}
use mathlib.Core.Bool.{cond}
use native.Mathlib.Omega.{arith}
use lib.Dec.{eqb}
use borrow.Author.Tests.{eq-eqb, ne_eqb}
use Rattle.bytes_at.proofs.Loops.{after_none, after_more, after_all}
use Rattle.bytes_at.proofs.Stepped.{via}
use Rattle.incremental_rules.specs.Bucket.{column_part_into, column_parts_at}
use Rattle.incremental_bucket.proofs.read_columns.Goals as goal
use Rattle.incremental_bucket.proofs.read_columns.Goals.{then-k-column, else-k-column}

pub loop-k-init : goal.loop-k-init
loop-k-init c = (refl, after_none _ _)

pub loop-k-preserved : goal.loop-k-preserved
unfolding column_part_into
loop-k-preserved c =
    let hit : c.if-k-column.offset ≡ cond (eqb c.loop-k.k c.args.column) c.read_column-one.result.value c.loop-k.offset =
    elim c.if-k-column.branch [
      | then-k-column w ↦ rw (eq-eqb _ _ w.if-k-column.true) w.offset-is
      | else-k-column w ↦ rw (ne_eqb _ _ w.if-k-column.false) w.offset-is
    ] in (
      c.read_column-one.ensures.inside ∙ c.loop-k.invariant.0,
      after_more _ _ _ c.loop-k.invariant.1 (
          via _ c.read_column-one.ensures.value (
          via _ hit (
          refl))),
    )

pub returns : goal.returns
unfolding column_parts_at
returns c = after_all _ _ _ _ c.loop-k.invariant.1 (omega arith) (omega arith)
