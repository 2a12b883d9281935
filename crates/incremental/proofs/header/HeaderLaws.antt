-- Bounds of the numbers of a header.
-- Assumes nothing.
use mathlib.Core.Path.{◌≡◌, refl}
use mathlib.Core.List.{List}
use mathlib.Core.Bool.{Bool}
use Prim.Native.Nat.{ℕ, ◌≤◌, ◌<◌, zero-le}
use native.Mathlib.Decide.{ℕ_discrete}
use native.Mathlib.Omega.{arith}
use borrow.Author.Tests.{eq-eqb, ne_eqb}
use Rattle.bytes_at.specs.declared.Refusal.{Refusal}
use Rattle.bytes_at.specs.Stages.{no_refusal}
use Rattle.aipsio_rules.specs.Field.{refusal_in}
use Rattle.bytes_at.specs.Steps.{◌>>=◌}
use Rattle.aipsio_rules.specs.declared.Cursor.{Cursor}
use Rattle.aipsio_rules.proofs.Kept.{Clean, clean_before, uint_reads, ranged_reads, ◌⨟◌}
use Rattle.aipsio_rules.proofs.ObjectKept.{closed_keeps}
use Rattle.aipsio_rules.proofs.Accepted.{ranged_within}
use Rattle.aipsio_rules.proofs.Bounds.{ranged_le}
use Rattle.incremental_rules.specs.declared.HeaderFields.{HeaderFields}
use Rattle.incremental_rules.specs.declared.Header.{Header}
use Rattle.incremental_rules.specs.Header.{fields_at, headed, header_at}
use Rattle.incremental.specs.Bounds.{HeaderBounds, HeaderWords}

-- the fields
pub record FieldBounds (h : HeaderFields) : Type 0 where
  pub size_most : h.size ≤ 1048576
  pub count_most : h.count ≤ 4096
  pub size_least : Clean h.next → 16 ≤ h.size

pub field_bounds : (s : List ℕ) (c : Cursor) → FieldBounds (fields_at s c)
unfolding fields_at ◌>>=◌
field_bounds s c = record {
  size_most = ranged_le s _ 4 16 1048576 3;
  count_most = ranged_le s _ 4 0 4096 3;
  size_least = λ h.
      (ranged_within s _ 4 16 1048576 3
      (clean_before ((ranged_reads s _ 4 0 4096 4).keeps ⨟ (uint_reads s _).keeps ⨟ (uint_reads s _).keeps ⨟ (uint_reads s _).keeps ⨟ (uint_reads s _).keeps) h)).0;
}

-- the answer: zeros where the cursor is refused
module _ (c : Cursor) (h : HeaderFields) where
  pub headed_on : Clean c
      → record { size = h.size; count = h.count; free_count = h.free_count; first_free = h.first_free; refused = no_refusal } ≡ headed c h
  unfolding headed
  headed_on e = rw (eq-eqb c.refused 0 e)

  pub headed_off : (c.refused ≡ 0 → ⊥) → {why : Refusal} → why ≡ refusal_in c
      → record { size = 0; count = 0; free_count = 0; first_free = 0; refused = why } ≡ headed c h
  unfolding headed
  headed_off e p = rw (ne_eqb c.refused 0 e, p)

  headed_bounds : (Clean c → Clean h.next) → FieldBounds h → HeaderBounds (headed c h)
  headed_bounds k x =
      elim (ℕ_discrete c.refused 0) [
        | yes e ↦ rw (← (headed_on e)) (record { size_most = x.size_most; count_most = x.count_most; size_least = λ z. x.size_least (k e) })
        | no e ↦ rw (← (headed_off e refl)) (record { size_most = zero-le; count_most = zero-le; size_least = λ z. absurd (e z) })
      ]

  pub headed_words : (h.free_count < 4294967296) × (h.first_free < 4294967296) → HeaderWords (headed c h)
  headed_words x =
      elim (ℕ_discrete c.refused 0) [
        | yes e ↦ rw (← (headed_on e)) (record { free_count = x.0; first_free = x.1 })
        | no e ↦ rw (← (headed_off e refl)) (record { free_count = omega arith; first_free = omega arith })
      ]

-- Every header's numbers are in range.
pub header_bounds : (s : List ℕ) (big : Bool) → HeaderBounds (header_at s big)
unfolding header_at ◌>>=◌
header_bounds s big = headed_bounds _ _ (λ e. clean_before (closed_keeps _ _) e) (field_bounds s _)

pub header_answered : (s : List ℕ) (big : Bool) {h : Header} → h ≡ header_at s big → HeaderWords h
    → record { value : h ≡ header_at s big; bounded : HeaderBounds h; words : HeaderWords h }
header_answered s big e w = record { value = e; bounded = rw e (header_bounds s big); words = w }
