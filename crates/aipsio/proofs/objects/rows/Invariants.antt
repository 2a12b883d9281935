-- `aipsio::objects::rows` meets its contract. The loop's invariant: after k turns the cursor is the definition's after k turns.
use mathlib.Core.Path.{◌≡◌}
use Prim.Native.Nat.{◌+◌, ◌*◌}
use Rattle.bytes_at.specs.Number.{bytes_of}
use Rattle.aipsio_rules.specs.Field.{moved_to}
use Rattle.aipsio_rules.specs.Object.{rows_at}
use Rattle.aipsio.proofs.objects.rows.Given as goal

abbrev pub invariant-loop-k : goal.invariant-loop-k
invariant-loop-k l = moved_to l.c (l.c.at + l.k * l.size) ≡ rows_at l.s l.c l.k (bytes_of l.width)
