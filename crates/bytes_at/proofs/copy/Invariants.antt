-- `bytes_at::copy` meets its contract. The loop's invariant: k elements are copied.
use Rattle.bytes_at.proofs.Copied.{Copied}
use Rattle.bytes_at.proofs.copy.Given as goal

abbrev pub invariant-loop-k : goal.invariant-loop-k
invariant-loop-k l = Copied l.src l.from l.n l.initial.dst l.dst l.at l.k
