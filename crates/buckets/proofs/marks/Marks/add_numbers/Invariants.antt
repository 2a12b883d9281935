-- `buckets::marks::Marks::add_numbers` meets its contract. The loop's invariant: the numbers that are left decide.
use Prim.Native.Nat.{◌+◌, ◌-◌, ◌*◌}
use Rattle.bytes_at.specs.Number.{numbers_at}
use Rattle.buckets.proofs.marks.Marking.{Marking}
use Rattle.buckets.proofs.marks.Marks.add_numbers.Given as goal

abbrev pub invariant-loop-i : goal.invariant-loop-i
invariant-loop-i l =
    Marking l.count l.initial.self.seen (numbers_at l.big 4 l.text l.from l.n) l.self.seen (numbers_at l.big 4 l.text (l.from + l.i * 4) (l.n - l.i))
