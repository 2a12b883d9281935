-- `aipsio::objects::axes` meets its contract.
use native.Mathlib.Omega.{arith}
use Rattle.bytes_at.proofs.Loops.{after_none, after_more, after_all}
use Rattle.aipsio_rules.specs.Object.{axes_at}
use Rattle.aipsio_rules.proofs.Bounds.{at_most}
use Rattle.aipsio_rules.proofs.ObjectBounds.{turns_le, axes_le}
use Rattle.aipsio.proofs.objects.axes.Goals as goal

pub loop-init : goal.loop-init
loop-init c = after_none _ _

pub add_axis-product-requires : goal.add_axis-product-requires
add_axis-product-requires c = rw c.loop.invariant (turns_le _ _ _ _ (omega arith))

pub loop-preserved : goal.loop-preserved
loop-preserved c = after_more _ _ _ c.loop.invariant c.add_axis-product.ensures.value

pub returns : goal.returns
unfolding axes_at
returns c = at_most (axes_le _ _ _ _) (after_all _ _ _ _ c.loop.invariant (omega arith) (omega arith))
