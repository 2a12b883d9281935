-- `incremental_bucket::read_columns` meets its contract. The loop's invariant: after k turns the state is the definition's after k turns.
use mathlib.Core.Path.{◌≡◌}
use Rattle.bytes_at.specs.Number.{bytes_of}
use Rattle.bytes_at.specs.Steps.{after}
use Rattle.aipsio_rules.specs.declared.Value.{Value}
use Rattle.incremental_rules.specs.Bucket.{column_part_into}
use Rattle.incremental_bucket.proofs.read_columns.Given as goal

abbrev pub invariant-loop-k : goal.invariant-loop-k
invariant-loop-k l = (l.next.end ≡ l.initial.next.end)
    × (◌≡◌ {A = Value} (record { value = l.offset; next = l.next }) (after (column_part_into l.s (bytes_of l.b.width) l.b.limit l.b.rows l.b.row l.column l.bytes) (record { value = 0; next = l.initial.next }) l.k))
