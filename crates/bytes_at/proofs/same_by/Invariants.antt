-- `bytes_at::same_by` meets its contract. The loop's invariant: the first k times N bytes are the same.
use Prim.Native.Nat.{◌*◌}
use Rattle.bytes_at.proofs.Eights.{Alike}
use Rattle.bytes_at.proofs.same_by.Given as goal

abbrev pub invariant-loop-k : goal.invariant-loop-k
invariant-loop-k g l = Alike l.a l.b (l.k * g.row.N)
