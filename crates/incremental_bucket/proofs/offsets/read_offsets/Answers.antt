-- `incremental_bucket::offsets::read_offsets` meets its contract. The loop's invariant: after i turns the state is the definition's after i turns.
use mathlib.Core.Path.{◌≡◌, refl, ◌∙◌}
use mathlib.Core.Bool.{cond}
use native.Mathlib.Omega.{arith}
use lib.Dec.{eqb}
use borrow.Author.Tests.{eq-eqb, ne_eqb}
use Rattle.bytes_at.proofs.Loops.{after_none, after_more}
use Rattle.incremental_rules.proofs.Turns.{offset_short, offset_wrong, offset_on, offsets_none, offsets_stop, offsets_all}
use Rattle.incremental_bucket.proofs.offsets.read_offsets.Goals as goal
use Rattle.incremental_bucket.proofs.offsets.read_offsets.Goals.{then-i-hit, else-i-hit}

pub returns-then-c-ne0-clause-value : goal.returns-then-c-ne0-clause-value
returns-then-c-ne0-clause-value c = offsets_none _ _ _ _ _ _ c.if-c-ne0.true

pub loop-i-init : goal.loop-i-init
loop-i-init c = (omega arith, after_none _ _)

pub returns-then-not-lies_within-clause-value : goal.returns-then-not-lies_within-clause-value
returns-then-not-lies_within-clause-value c =
    c.refuse.ensures ∙ offsets_stop _ _ _ _ _ _ _ c.loop-i.invariant.1 (omega (arith, c.min-m.ensures)) (λ z. omega arith)
    (offset_wrong _ _ _ _ _ _ c.if-c-ne0.false refl (omega (arith, c.left.ensures, c.min-m.ensures, c.loop-i.invariant.0))
    c.uint_there-v.ensures.value c.lies_within.ensures c.if-not-lies_within.true)

pub loop-i-preserved : goal.loop-i-preserved
loop-i-preserved c =
    let hit : c.if-i-hit.offset ≡ cond (eqb c.loop-i.i c.args.hit) c.uint_there-v.result c.loop-i.offset =
    elim c.if-i-hit.branch [
      | then-i-hit w ↦ rw (eq-eqb _ _ w.if-i-hit.true) w.offset-is
      | else-i-hit w ↦ rw (ne_eqb _ _ w.if-i-hit.false) w.offset-is
    ] in (
      omega (arith, c.loop-i.invariant.0),
      after_more _ _ _ c.loop-i.invariant.1
          (offset_on _ _ _ _ _ _ c.if-c-ne0.false refl (omega (arith, c.left.ensures, c.min-m.ensures, c.loop-i.invariant.0))
          c.uint_there-v.ensures.value c.lies_within.ensures c.if-not-lies_within.false hit),
    )

pub returns-then-m-n-clause-value : goal.returns-then-m-n-clause-value
returns-then-m-n-clause-value c =
    c.refuse-then-m-n.ensures ∙ offsets_stop _ _ _ _ _ _ _ c.loop-i.invariant.1 (omega arith) (λ z. omega arith)
    (offset_short _ _ _ _ _ _ c.if-c-ne0.false refl (omega (arith, c.left.ensures, c.min-m.ensures, c.loop-i.invariant.0)))

pub returns-clause-value : goal.returns-clause-value
returns-clause-value c = offsets_all _ _ _ _ _ _ _ c.loop-i.invariant.1 (omega (arith, c.min-m.ensures)) (omega (arith, c.min-m.ensures))
