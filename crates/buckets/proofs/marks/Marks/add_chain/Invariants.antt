-- `buckets::marks::Marks::add_chain` meets its contract. The loop's invariant: the buckets that are left decide.
use Prim.Native.Nat.{◌-◌}
use Rattle.standard_rules.specs.Index.{links}
use Rattle.buckets.proofs.marks.Marking.{Marking}
use Rattle.buckets.proofs.marks.Marks.add_chain.Given as goal

abbrev pub invariant-loop-i : goal.invariant-loop-i
invariant-loop-i l =
    Marking l.buckets.count l.initial.self.seen (links l.buckets.file.now l.buckets.size l.n l.first) l.self.seen (links l.buckets.file.now l.buckets.size (l.n - l._i) l.b)
