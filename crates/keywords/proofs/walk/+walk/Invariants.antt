-- `keywords::walk::walk` meets its contract, the one function of its cycle of calls. The measure is the levels left. The loop's invariant:
-- the walk stands where the definition does after i fields.
use mathlib.Core.Path.{◌≡◌}
use Prim.Native.Nat.{◌-◌}
use Rattle.bytes_at.specs.Steps.{after}
use Rattle.keyword_rules.specs.TableRecord.{field_into, walk_at}
use Rattle.keywords.proofs.walk.+walk.Given as goal

abbrev pub invariant-loop-i : goal.invariant-loop-i
invariant-loop-i l = l.w ≡ after (field_into (walk_at (l.deeper - 1) l.s l.path l.sought) l.s l.path l.sought (l.deeper - 1) l.b.version) l.initial.w l.i

-- the levels left
abbrev pub decreases-walk : goal.decreases-walk
decreases-walk l = l.deeper
