-- `buckets::Buckets::free_list_ok` meets its contract. The loop's invariant: the list from here on decides.
use mathlib.Core.Path.{◌≡◌}
use Prim.Native.Nat.{◌-◌}
use Rattle.standard_rules.specs.Index.{free_ok}
use Rattle.buckets.proofs.Buckets.free_list_ok.Given as goal

abbrev pub invariant-loop-i : goal.invariant-loop-i
invariant-loop-i l = free_ok l.self.file.now l.self.size l.self.count l.n l.first ≡ free_ok l.self.file.now l.self.size l.self.count (l.n - l._i) l.b
