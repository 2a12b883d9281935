-- `incremental_bucket::values::starts_of` meets its contract. The loop's invariant: after i turns the state is the definition's after i turns.
use mathlib.Core.Path.{◌≡◌, refl, ap, ◌∙◌}
use mathlib.Core.Bool.{cond}
use native.Mathlib.Omega.{arith}
use lib.Dec.{leb}
use borrow.Author.Tests.{le-leb, lt-leb}
use Rattle.bytes_at.proofs.Loops.{after_none, after_more}
use Rattle.bytes_at.proofs.Room.{room_at, no_room_at}
use Rattle.aipsio_rules.specs.declared.Cursor.{Cursor}
use Rattle.incremental_rules.proofs.Turns.{start_short, start_wrong, start_on, starts_none, starts_stop, starts_all}
use Rattle.incremental_bucket.proofs.values.starts_of.Goals as goal
use Rattle.incremental_bucket.proofs.values.starts_of.Goals.{then-v-b, else-v-b}

pub returns-then-c-ne0-clause-value : goal.returns-then-c-ne0-clause-value
returns-then-c-ne0-clause-value g c = starts_none _ _ _ _ _ _ c.if-c-ne0.true

pub loop-i-init : goal.loop-i-init
loop-i-init g c = (omega arith, after_none _ _)

pub returns-then-not-start_fits-clause-value : goal.returns-then-not-start_fits-clause-value
returns-then-not-start_fits-clause-value g c =
    ap (λ (d : Cursor). record { last = 0; hit = 0; next = d }) c.refuse.ensures ∙ starts_stop _ _ _ _ _ _ _ c.loop-i.invariant.1 (omega (arith, c.min-m.ensures)) (λ z. omega arith)
    (start_wrong _ _ _ _ _ _ c.if-c-ne0.false refl refl (omega (arith, room_at _ c.requires.size.0 refl _ _ _ c.left.ensures c.loop-i.invariant.0 (omega (arith, c.min-m.ensures)) c.loop-i-test.true))
    c.uint_there-v.ensures.value c.start_fits.ensures c.if-not-start_fits.true)

pub loop-i-preserved : goal.loop-i-preserved
loop-i-preserved g c =
    let hit : c.if-v-b.hit ≡ cond (leb c.uint_there-v.result c.args.b.row) c.loop-i.i c.loop-i.hit =
    elim c.if-v-b.branch [
      | then-v-b w ↦ rw (le-leb _ _ w.if-v-b.true) w.hit-is
      | else-v-b w ↦ rw (lt-leb _ _ w.if-v-b.false) w.hit-is
    ] in (
      omega (arith, c.loop-i.invariant.0),
      after_more _ _ _ c.loop-i.invariant.1
          (start_on _ _ _ _ _ _ c.if-c-ne0.false refl refl (omega (arith, room_at _ c.requires.size.0 refl _ _ _ c.left.ensures c.loop-i.invariant.0 (omega (arith, c.min-m.ensures)) c.loop-i-test.true))
          c.uint_there-v.ensures.value c.start_fits.ensures c.if-not-start_fits.false hit),
    )

pub returns-then-m-n-clause-value : goal.returns-then-m-n-clause-value
returns-then-m-n-clause-value g c =
    ap (λ (d : Cursor). record { last = 0; hit = 0; next = d }) c.refuse-then-m-n.ensures ∙ starts_stop _ _ _ _ _ _ _ c.loop-i.invariant.1 (omega arith) (λ z. omega arith)
    (start_short _ _ _ _ _ _ c.if-c-ne0.false refl refl (no_room_at _ c.requires.size.0 refl _ _ _ c.left.ensures c.loop-i.invariant.0 (omega (arith, c.min-m.ensures))))

pub returns-clause-value : goal.returns-clause-value
returns-clause-value g c = starts_all _ _ _ _ _ _ _ c.loop-i.invariant.1 (omega (arith, c.min-m.ensures)) (omega (arith, c.min-m.ensures))
