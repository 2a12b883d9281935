-- `incremental::parts::Entries::find_entry` meets its contract. The loop's invariant: the row's entry is one of those that are left.
use Prim.Native.Nat.{◌-◌}
use Rattle.incremental.proofs.parts.Entry.{Halving}
use Rattle.incremental.proofs.parts.Entries.find_entry.Given as goal

abbrev pub invariant-loop-first : goal.invariant-loop-first
invariant-loop-first l = Halving l.self.big l.self.file.now l.self.index l.row l.first l.past

abbrev pub decreases-loop-first : goal.decreases-loop-first
decreases-loop-first l = l.past - l.first
