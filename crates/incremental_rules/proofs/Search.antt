-- The buckets in index order, where none is refused: the start and the offset are those of the row's bucket.
-- Assumes nothing.
use mathlib.Core.Path.{◌≡◌, refl, sym, ap, ◌∙◌}
use mathlib.Core.List.{List}
use mathlib.Core.Bool.{Bool, true, false, cond, false≢true}
use Prim.Native.Nat.{ℕ, zero, suc, ◌+◌, ◌-◌, ◌<◌}
use native.Mathlib.Decide.{ℕ_discrete}
use native.Mathlib.Nat.{not-suc-le-zero}
use native.Mathlib.Omega.{arith}
use lib.Dec.{leb}
use borrow.Author.Tests.{eq-eqb}
use Rattle.bytes_at.specs.Steps.{after, ◌>>=◌}
use Rattle.bytes_at.specs.declared.Refusal.{Refusal}
use Rattle.bytes_at.specs.Stages.{◌▷◌}
use Rattle.aipsio_rules.specs.Field.{refusal_in}
use Rattle.bytes_at.proofs.Stages.{then_left, then_right}
use Rattle.aipsio_rules.specs.declared.Value.{Value}
use Rattle.standard_rules.specs.Header.{bucket_start}
use Rattle.incremental_rules.specs.declared.Index.{Index}
use Rattle.incremental_rules.specs.Index.{first_row, bucket_number}
use Rattle.incremental_rules.specs.Bucket.{bucket_at}
use Rattle.bytes_at.specs.Lists.{last_below}
use Rattle.incremental_rules.specs.declared.Cells.{Cells}
use Rattle.incremental_rules.specs.declared.Found.{Found}
use Rattle.incremental_rules.specs.Check.{found_as, bucket_into, nothing, search_of}
use Rattle.incremental_rules.specs.Place.{entry_of}
use Rattle.incremental_rules.specs.OneBucket.{own_bucket}
use Rattle.incremental_rules.proofs.AnyCell.{turn_refused}

found_clean : (refused : Refusal) (start offset : ℕ) → refused.number ≡ 0 → found_as refused start offset ≡ record { start = start; offset = offset; refused = refused }
unfolding found_as
found_clean refused start offset h = rw (eq-eqb refused.number 0 h)

module _ (big : Bool) (f : List ℕ) (size : ℕ) (x : Index) (cells : Cells) (row : ℕ) where
  -- what bucket i of the index gives
  abbrev pub bucket_in : ℕ → Value
  bucket_in i =
      bucket_at f (bucket_start size (bucket_number big f x i)) size big (first_row big f x (i + 1) - first_row big f x i) (row - first_row big f x i) cells.column cells.bytes cells.count

  abbrev not_above : ℕ → Bool
  not_above i = leb (first_row big f x i) row

  -- of n buckets, that of entry e was found
  pub record FoundIn (n e : ℕ) (found : Found) : Type 0 where
    pub start : found.start ≡ bucket_start size (bucket_number big f x e)
    pub offset : found.offset ≡ (bucket_in e).value
    pub clean : (bucket_in e).next.refused ≡ 0

  turn_is : (found : Found) (i : ℕ) → (bucket_into big f size x cells row found i).refused.number ≡ 0
      → bucket_into big f size x cells row found i ≡ record {
        start = cond (not_above i) (bucket_start size (bucket_number big f x i)) found.start;
        offset = cond (not_above i) (bucket_in i).value found.offset;
        refused = found.refused ▷ refusal_in (bucket_in i).next;
      }
  unfolding bucket_into ◌>>=◌
  turn_is found i e = found_clean _ _ _ (rw (turn_refused big f size x cells row found i) at e)

  search_more : (n : ℕ) (found : Found) → not_above 0 ≡ true → (0 < n → FoundIn n (last_below not_above n) found)
      → (bucket_into big f size x cells row found n).refused.number ≡ 0 → FoundIn (suc n) (last_below not_above (suc n)) (bucket_into big f size x cells row found n)
  unfolding last_below
  search_more n found z v e = rw (turn_is found n e) (go (not_above n) refl)
    where
      go : (b : Bool) → not_above n ≡ b → FoundIn (suc n) (cond (not_above n) n (last_below not_above n)) (record {
        start = cond (not_above n) (bucket_start size (bucket_number big f x n)) found.start;
        offset = cond (not_above n) (bucket_in n).value found.offset;
        refused = found.refused ▷ refusal_in (bucket_in n).next;
      })
      go true q = rw q (record { start = refl; offset = refl; clean = then_right _ _ (rw (turn_refused big f size x cells row found n) at e) })
      go false q =
          let p : 0 < n = elim (ℕ_discrete n 0) [ yes k ↦ absurd (false≢true (sym q ∙ ap not_above k ∙ z)) | no k ↦ omega arith ] in
          let w = v p in
          rw q (record { start = w.start; offset = w.offset; clean = w.clean })

  turns_found : (n : ℕ) → not_above 0 ≡ true → (after (bucket_into big f size x cells row) nothing n).refused.number ≡ 0
      → 0 < n → FoundIn n (last_below not_above n) (after (bucket_into big f size x cells row) nothing n)
  unfolding after
  turns_found zero z e h = absurd (not-suc-le-zero h)
  turns_found (suc n) z e h =
      let found = after (bucket_into big f size x cells row) nothing n in
      search_more n found z (turns_found n z (then_left _ _ (rw (turn_refused big f size x cells row found n) at e))) e

  pub search_found : not_above 0 ≡ true → 0 < x.count → (search_of big f size x cells row).refused.number ≡ 0
      → FoundIn x.count (entry_of big f x row) (search_of big f size x cells row)
  unfolding search_of
  search_found z h e = turns_found x.count z e h

  -- the row's own bucket alone
  pub own_found : (rows : ℕ) → not_above (entry_of big f x row) ≡ true → (own_bucket rows big f size x cells row).refused.number ≡ 0
      → FoundIn x.count (entry_of big f x row) (own_bucket rows big f size x cells row)
  unfolding own_bucket
  own_found rows q e =
      let i = entry_of big f x row in
      rw (turn_is _ i e, q) (record { start = refl; offset = refl; clean = then_right _ _ (rw (turn_refused big f size x cells row _ i) at e) })
