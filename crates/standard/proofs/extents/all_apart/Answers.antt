-- `standard::extents::all_apart` meets its contract. The loop's invariant: the extents that are left decide.
use Prim.Native.Nat.{◌+◌}
use native.Mathlib.Omega.{arith}
use Rattle.standard_rules.specs.Map.{clear}
use Rattle.standard.proofs.Each.{take_rest, pair_on, pair_off, pair_end}
use Rattle.standard.proofs.extents.all_apart.Goals as goal

pub returns-then-not-is_apart : goal.returns-then-not-is_apart
returns-then-not-is_apart c = pair_off clear _ _ c.loop-i.invariant _ (omega arith) (take_rest c.args.extents.now (c.loop-i.i + 1)) c.is_apart.ensures c.if-not-is_apart.true

pub loop-i-preserved : goal.loop-i-preserved
loop-i-preserved c = pair_on clear _ _ c.loop-i.invariant _ (omega arith) (take_rest c.args.extents.now (c.loop-i.i + 1)) c.is_apart.ensures c.if-not-is_apart.false

pub returns : goal.returns
returns c = pair_end clear _ _ c.loop-i.invariant (omega arith)
