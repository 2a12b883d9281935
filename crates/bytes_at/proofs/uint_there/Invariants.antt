-- `bytes_at::uint_there` meets its contract. The loops' invariants: the first k bytes are read, or the last.
use Rattle.std.proofs.Common.{◌≡◌, ◌<◌, ◌+◌, ◌-◌, ◌^◌, drop}
use Rattle.bytes_at.specs.Number.{big_from, little_from}
use Rattle.bytes_at.proofs.uint_there.Given as goal

abbrev pub invariant-loop-k : goal.invariant-loop-k
invariant-loop-k g l = record { value : l.n ≡ big_from 0 l.k (drop l.at l.s); below : l.n < 256 ^ l.k }

abbrev pub invariant-loop-k-else-big : goal.invariant-loop-k-else-big
invariant-loop-k-else-big g l = record { value : l.n ≡ little_from 0 1 l.k (drop (l.at + g.row.N - l.k) l.s); below : l.n < 256 ^ l.k }
