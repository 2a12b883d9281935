-- `bytes_at::before_zero` meets its contract.
use mathlib.Core.Path.{refl, ap}
use Prim.Native.Nat.{ℕ}
use lib.ListN.{take}
use Rattle.bytes_at.specs.Bytes.{before_zero}
use Rattle.bytes_at.proofs.before_zero.Goals as goal

pub returns : goal.returns
unfolding before_zero
returns c = (ap (λ (n : ℕ). take n c.args.s.now) c.first_zero.ensures.0, refl)
