-- `bytes_at::copy` meets its contract. The loop's invariant: k elements are copied.
use native.Mathlib.Omega.{arith}
use Rattle.bytes_at.proofs.Copied.{copied_start, copied_again, copied_end}
use Rattle.bytes_at.proofs.copy.Goals as goal

pub loop-k-init : goal.loop-k-init
loop-k-init c = copied_start _ _ _ _ _

pub loop-k-preserved : goal.loop-k-preserved
loop-k-preserved c = copied_again c.loop-k.invariant (omega arith) (omega arith) (omega arith)

pub returns : goal.returns
returns c = copied_end c.loop-k.invariant (omega arith)
