-- `standard_index::chain::gather_chain` meets its contract. The loop's invariant: what is copied, and that the chain from here on decides.
use Prim.Native.Nat.{◌-◌}
use Rattle.standard_index.proofs.chain.Gathered.{Gathered}
use Rattle.standard_index.proofs.chain.gather_chain.Given as goal

abbrev pub invariant-loop-i : goal.invariant-loop-i
invariant-loop-i l = Gathered l.buckets.file.now l.buckets.size l.buckets.count l.count l.first l.initial.text l.text (l.count - l._i) l.b l.at
