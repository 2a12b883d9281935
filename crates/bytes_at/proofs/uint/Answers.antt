-- `bytes_at::uint` meets its contract: where the bytes end before, the number is 0.
use native.Mathlib.Omega.{arith}
use native.Mathlib.Nat.{one-le-pow}
use Rattle.bytes_at.proofs.Numbers.{no_uint}
use Rattle.bytes_at.proofs.uint.Goals as goal
use Rattle.bytes_at.proofs.uint.Goals.{then-s-via-then-s, then-s-via-else-s+then-s-at}

pub returns-then-s-clause-value : goal.returns-then-s-clause-value
returns-then-s-clause-value g c =
    elim c.then-s.branch [
      | then-s-via-then-s w ↦ no_uint c.args.big g.row.N c.args.s.now c.args.at (omega arith)
      | then-s-via-else-s+then-s-at w ↦ no_uint c.args.big g.row.N c.args.s.now c.args.at (omega arith)
    ]

pub returns-then-s-clause-bounded : goal.returns-then-s-clause-bounded
returns-then-s-clause-bounded g c = one-le-pow g.row.N 256 (omega arith)
