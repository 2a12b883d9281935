-- The numbers of a header are in range.
-- Assumes nothing.
use mathlib.Core.Path.{◌≡◌, refl}
use mathlib.Core.List.{List}
use mathlib.Core.Bool.{Bool, true}
use Prim.Native.Nat.{ℕ, ◌≤◌, zero-le}
use native.Mathlib.Decide.{ℕ_discrete}
use borrow.Author.Tests.{eq-eqb, ne_eqb, leb-true}
use Rattle.bytes_at.specs.Steps.{◌>>=◌}
use Rattle.bytes_at.specs.declared.Refusal.{Refusal}
use Rattle.bytes_at.specs.Stages.{no_refusal}
use Rattle.aipsio_rules.specs.Field.{refusal_in}
use Rattle.aipsio_rules.specs.declared.Cursor.{Cursor}
use Rattle.aipsio_rules.proofs.Kept.{Clean, Keeps, clean_before, uint_reads, ranged_reads, judged_keeps, ◌⨟◌}
use Rattle.aipsio_rules.proofs.ObjectKept.{closed_keeps}
use Rattle.aipsio_rules.proofs.Accepted.{judged_passed, ranged_within}
use Rattle.aipsio_rules.proofs.Bounds.{ranged_le}
use Rattle.standard_rules.specs.declared.BucketFields.{BucketFields}
use Rattle.standard_rules.specs.declared.IndexFields.{IndexFields}
use Rattle.standard_rules.specs.Header.{bucket_fields_at, offset_fits, index_fields_at, headed, header_at, HeaderBounds}

-- the fields on buckets
pub record BucketBounds (b : BucketFields) : Type 0 where
  pub size_most : b.size ≤ 1048576
  pub count_most : b.count ≤ 4096
  pub size_least : Clean b.next → 16 ≤ b.size

pub bucket_bounds : (s : List ℕ) (c : Cursor) → BucketBounds (bucket_fields_at s c)
unfolding bucket_fields_at ◌>>=◌
bucket_bounds s c = record {
  size_most = ranged_le s _ 4 16 1048576 3;
  count_most = ranged_le s _ 4 0 4096 3;
  size_least = λ h.
      (ranged_within s _ 4 16 1048576 3
      (clean_before ((ranged_reads s _ 4 0 4096 4).keeps ⨟ (uint_reads s _).keeps ⨟ (uint_reads s _).keeps ⨟ (uint_reads s _).keeps) h)).0;
}

-- the fields on the index
pub record IndexBounds (i : IndexFields) : Type 0 where
  pub length_most : i.length ≤ 65536
  pub sets_most : i.sets ≤ 16
  pub length_least : Clean i.next → 1 ≤ i.length
  pub sets_least : Clean i.next → 1 ≤ i.sets
  pub offset_least : Clean i.next → (i.offset ≡ 0 → ⊥) → 8 ≤ i.offset

offset_some : (offset : ℕ) → offset_fits offset ≡ true → (offset ≡ 0 → ⊥) → 8 ≤ offset
offset_some offset e h = leb-true 8 offset (rw (ne_eqb offset 0 h) at e)

pub index_bounds : (s : List ℕ) (c : Cursor) → IndexBounds (index_fields_at s c)
unfolding index_fields_at ◌>>=◌
index_bounds s c = record {
  length_most = ranged_le s _ 4 1 65536 3;
  sets_most = ranged_le s _ 4 1 16 3;
  length_least = λ h. (ranged_within s _ 4 1 65536 3 (clean_before (ranged_reads s _ 4 1 16 4).keeps h)).0;
  sets_least = λ h. (ranged_within s _ 4 1 16 3 h).0;
  offset_least = λ h.
      offset_some _
      (judged_passed _ _ _ 3 (clean_before ((uint_reads s _).keeps ⨟ (ranged_reads s _ 4 1 65536 4).keeps ⨟ (ranged_reads s _ 4 1 16 4).keeps) h)).1;
}

index_keeps : (s : List ℕ) (c : Cursor) → Keeps c (index_fields_at s c).next
unfolding index_fields_at ◌>>=◌
index_keeps s c =
    (uint_reads s c).keeps ⨟ (uint_reads s _).keeps ⨟ (uint_reads s _).keeps ⨟ judged_keeps _ _ _ 4 ⨟ (uint_reads s _).keeps ⨟ (ranged_reads s _ 4 1 65536 4).keeps ⨟ (ranged_reads s _ 4 1 16 4).keeps

-- the answer: zeros where the cursor is refused
module _ (c : Cursor) (b : BucketFields) (i : IndexFields) where
  pub headed_on : Clean c
      → record {
        size = b.size;
        count = b.count;
        free_count = b.free_count;
        first_free = b.first_free;
        index_count = i.index_count;
        first_index = i.first_index;
        offset = i.offset;
        length = i.length;
        sets = i.sets;
        refused = no_refusal;
      } ≡ headed c b i
  unfolding headed
  headed_on h = rw (eq-eqb c.refused 0 h)

  pub headed_off : (c.refused ≡ 0 → ⊥) → {why : Refusal} → why ≡ refusal_in c
      → record {
        size = 0;
        count = 0;
        free_count = 0;
        first_free = 0;
        index_count = 0;
        first_index = 0;
        offset = 0;
        length = 0;
        sets = 0;
        refused = why;
      } ≡ headed c b i
  unfolding headed
  headed_off h e = rw (ne_eqb c.refused 0 h, e)

  headed_bounds : (Clean c → Clean b.next) → (Clean c → Clean i.next) → BucketBounds b → IndexBounds i → HeaderBounds (headed c b i)
  headed_bounds k l x y =
      elim (ℕ_discrete c.refused 0) [
        | yes h ↦ rw (← (headed_on h)) (record {
          size_most = x.size_most;
          count_most = x.count_most;
          length_most = y.length_most;
          sets_most = y.sets_most;
          size_least = λ e. x.size_least (k h);
          length_least = λ e. y.length_least (l h);
          sets_least = λ e. y.sets_least (l h);
          offset_least = λ e. y.offset_least (l h);
        })
        | no h ↦ rw (← (headed_off h refl)) (record {
          size_most = zero-le;
          count_most = zero-le;
          length_most = zero-le;
          sets_most = zero-le;
          size_least = λ e. absurd (h e);
          length_least = λ e. absurd (h e);
          sets_least = λ e. absurd (h e);
          offset_least = λ e. absurd (h e);
        })
      ]

-- Every header's numbers are in range.
pub header_bounds : (s : List ℕ) (big : Bool) → HeaderBounds (header_at s big)
unfolding header_at ◌>>=◌
header_bounds s big =
    headed_bounds _ _ _
    (λ h. clean_before (index_keeps s _ ⨟ closed_keeps _ _) h)
    (λ h. clean_before (closed_keeps _ _) h)
    (bucket_bounds s _)
    (index_bounds s _)
