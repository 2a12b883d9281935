-- `keyword_values::read_lengths` meets its contract. The loop's invariant: after i turns the product is the definition's.
use mathlib.Core.Path.{◌≡◌}
use Prim.Native.Nat.{ℕ}
use Rattle.bytes_at.specs.Steps.{after}
use Rattle.aipsio_rules.specs.declared.Value.{Value}
use Rattle.keyword_rules.specs.Values.{length_into}
use Rattle.keyword_values.proofs.read_lengths.Given as goal

abbrev pub invariant-loop-i : goal.invariant-loop-i
invariant-loop-i l = l.product ≡ after (λ (p : Value) (j : ℕ). length_into l.s p) l.initial.product l._i
