-- `keyword_values::skip_strings` meets its contract. The loop's invariant: the cursor is the definition's after i turns.
use mathlib.Core.Path.{◌≡◌}
use Prim.Native.Nat.{ℕ}
use Rattle.bytes_at.specs.Steps.{after}
use Rattle.aipsio_rules.specs.declared.Cursor.{Cursor}
use Rattle.aipsio_rules.specs.Field.{string_at}
use Rattle.keyword_values.proofs.skip_strings.Given as goal

abbrev pub invariant-loop-i : goal.invariant-loop-i
invariant-loop-i l = (l.d ≡ after (λ (e : Cursor) (j : ℕ). (string_at l.s e 0 4096).next) l.initial.d l._i)
