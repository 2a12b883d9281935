-- The loop over the axes of an Array is left at the first refusal: no further turn would change anything, and what a refused
-- turn gives is 0.
-- Assumes nothing.
use mathlib.Core.Path.{◌≡◌, sym}
use mathlib.Core.List.{List}
use Prim.Native.Nat.{ℕ, ◌+◌, ◌<◌}
use native.Mathlib.Omega.{arith}
use Rattle.bytes_at.specs.Steps.{after}
use Rattle.bytes_at.proofs.Loops.{after_more, after_stop}
use Rattle.aipsio_rules.specs.declared.Value.{Value}
use Rattle.aipsio_rules.proofs.Kept.{Refused, refused_reads}
use Rattle.keyword_rules.specs.Values.{length_into}
use Rattle.keyword_rules.proofs.Kept.{length_reads}

pub lengths_stop : (s : List ℕ) (x : Value) (i n : ℕ) {y : Value} → y ≡ after (λ p j. length_into s p) x i → i < n → Refused y.next
    → record { value = 0; next = y.next } ≡ after (λ p j. length_into s p) x n
lengths_stop s x i n {y} p h r =
    let z : Value = record { value = 0; next = y.next } in
    after_stop _ x (i + 1) n (after_more _ x i p (sym (refused_reads (length_reads s y) r))) (omega arith) (λ j. refused_reads (length_reads s z) r)
