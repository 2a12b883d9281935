-- `incremental_bucket::offsets::read_offsets` meets its contract. The loop's invariant: after i turns the state is the definition's after i turns.
use Prim.Native.Nat.{◌+◌, ◌*◌}
use mathlib.Core.Path.{◌≡◌}
use Rattle.bytes_at.specs.Steps.{after}
use Rattle.aipsio_rules.specs.declared.Value.{Value}
use Rattle.incremental_rules.specs.Bucket.{offset_into}
use Rattle.incremental_rules.proofs.Turns.{forward}
use Rattle.incremental_bucket.proofs.offsets.read_offsets.Given as goal

abbrev pub invariant-loop-i : goal.invariant-loop-i
invariant-loop-i l = (l.at ≡ l.c.at + l.i * 4)
    × (◌≡◌ {A = Value} (record { value = l.offset; next = forward l.c l.at }) (after (offset_into l.s l.limit l.bytes l.hit) (record { value = 0; next = l.c }) l.i))
