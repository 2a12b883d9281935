-- `keyword_desc::judge_type` meets its contract, the one function of its cycle of calls. The measure is the levels left. The loop's
-- invariant: the cursor is the definition's after i fields.
use mathlib.Core.Path.{◌≡◌}
use Prim.Native.Nat.{ℕ, ◌-◌}
use Rattle.bytes_at.specs.Steps.{after}
use Rattle.aipsio_rules.specs.declared.Cursor.{Cursor}
use Rattle.keyword_rules.specs.RecordDesc.{field_past, type_desc_at}
use Rattle.keyword_desc.proofs.+judge_type.Given as goal

abbrev pub invariant-loop-i : goal.invariant-loop-i
invariant-loop-i l = l.d ≡ after (λ (e : Cursor) (j : ℕ). field_past (type_desc_at (l.deeper - 1) l.s) l.s (l.deeper - 1) l.o.value e) l.initial.d l._i

-- the levels left
abbrev pub decreases-judge_type : goal.decreases-judge_type
decreases-judge_type l = l.deeper
