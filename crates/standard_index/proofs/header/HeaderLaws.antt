-- The numbers of a header that have no range are uInts.
-- Assumes nothing.
use mathlib.Core.Path.{◌≡◌, refl}
use mathlib.Core.List.{List}
use mathlib.Core.Bool.{Bool}
use Prim.Native.Nat.{◌<◌, ℕ}
use native.Mathlib.Decide.{ℕ_discrete}
use native.Mathlib.Omega.{arith}
use Rattle.aipsio_rules.specs.declared.Cursor.{Cursor}
use Rattle.standard_rules.specs.declared.BucketFields.{BucketFields}
use Rattle.standard_rules.specs.declared.IndexFields.{IndexFields}
use Rattle.standard_rules.specs.declared.Header.{Header}
use Rattle.standard_rules.specs.Header.{headed, header_at, HeaderBounds}
use Rattle.standard_rules.proofs.HeaderBounds.{headed_on, headed_off, header_bounds}
use Rattle.standard_index.specs.Bounds.{HeaderWords}

module _ (c : Cursor) (b : BucketFields) (i : IndexFields) where
  pub headed_words : (b.free_count < 4294967296) × (b.first_free < 4294967296)
      → (i.index_count < 4294967296) × (i.first_index < 4294967296) × (i.offset < 4294967296)
      → HeaderWords (headed c b i)
  headed_words x y =
      elim (ℕ_discrete c.refused 0) [
        | yes h ↦ rw (← (headed_on c b i h)) (record { free_count = x.0; first_free = x.1; index_count = y.0; first_index = y.1; offset = y.2 })
        | no h ↦ rw (← (headed_off c b i h refl)) (record { free_count = omega arith; first_free = omega arith; index_count = omega arith; first_index = omega arith; offset = omega arith })
      ]

pub header_answered : (s : List ℕ) (big : Bool) {h : Header} → h ≡ header_at s big → HeaderWords h
    → record { value : h ≡ header_at s big; bounded : HeaderBounds h; words : HeaderWords h }
header_answered s big e w = record { value = e; bounded = rw e (header_bounds s big); words = w }
