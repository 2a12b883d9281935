-- `incremental_bucket::values::starts_of` meets its contract. The loop's invariant: after i turns the state is the definition's after i turns.
use Prim.Native.Nat.{◌+◌, ◌*◌}
use mathlib.Core.Path.{◌≡◌}
use Rattle.bytes_at.specs.Steps.{after}
use Rattle.incremental_rules.specs.declared.Starts.{Starts}
use Rattle.incremental_rules.specs.Bucket.{start_into}
use Rattle.incremental_rules.proofs.Turns.{forward}
use Rattle.incremental_bucket.proofs.values.starts_of.Given as goal

abbrev pub invariant-loop-i : goal.invariant-loop-i
invariant-loop-i g l = (l.at ≡ l.c.at + l.i * g.row.N)
    × (◌≡◌ {A = Starts} (record { last = l.last; hit = l.hit; next = forward l.c l.at }) (after (start_into l.s g.row.N l.b.rows l.b.row) (record { last = 0; hit = 0; next = l.c }) l.i))
