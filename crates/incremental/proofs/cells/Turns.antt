-- An entry of the index, and the loop over all of them: what a turn gives.
-- Assumes nothing.
use mathlib.Core.Path.{◌≡◌, refl, sym, ap, ◌∙◌}
use mathlib.Core.Bool.{Bool, cond}
use mathlib.Core.List.{List}
use Prim.Native.Nat.{ℕ, ◌+◌, ◌-◌, ◌≤◌, ◌<◌}
use native.Mathlib.Omega.{arith}
use lib.Dec.{leb, ltb}
use borrow.Author.Tests.{ne_eqb, lt-ltb, le-ltb, le-leb, lt-leb}
use Rattle.bytes_at.specs.Steps.{after, ◌>>=◌}
use Rattle.bytes_at.specs.declared.Refusal.{Refusal}
use Rattle.bytes_at.specs.Stages.{no_refusal, blaming, ◌▷◌}
use Rattle.bytes_at.proofs.Stages.{goes, stops, clear_blaming, yes_is, no_is}
use Rattle.aipsio_rules.specs.Field.{refusal_in}
use Rattle.bytes_at.proofs.Loops.{after_more, after_stop}
use Rattle.bytes_at.proofs.Stepped.{via}
use Rattle.aipsio_rules.specs.declared.Value.{Value}
use Rattle.standard_rules.specs.Header.{bucket_start}
use Rattle.incremental_rules.specs.declared.Index.{Index}
use Rattle.incremental_rules.specs.Index.{first_row, bucket_number}
use Rattle.incremental_rules.specs.Bucket.{bucket_at}
use Rattle.incremental_rules.specs.declared.Cells.{Cells}
use Rattle.incremental_rules.specs.declared.Found.{Found}
use Rattle.incremental_rules.specs.Check.{found_as, bucket_into, nothing}
use Rattle.incremental_rules.specs.Place.{entry_of}
use Rattle.incremental.specs.Check.{found_at, Refuses}
use Rattle.incremental_rules.specs.OneBucket.{own_bucket}

-- after the refusal so far
module _ (refused r : Refusal) (start offset : ℕ) where
  found_on : refused.number ≡ 0 → r ≡ no_refusal → record { start = start; offset = offset; refused = no_refusal } ≡ found_as (refused ▷ r) start offset
  unfolding found_as
  found_on h k = rw (goes refused r h, k)

  found_off : refused.number ≡ 0 → (r.number ≡ 0 → ⊥) → record { start = 0; offset = 0; refused = r } ≡ found_as (refused ▷ r) start offset
  unfolding found_as
  found_off h k = rw (goes refused r h, ne_eqb r.number 0 k)

  found_stays : (refused.number ≡ 0 → ⊥) → record { start = 0; offset = 0; refused = refused } ≡ found_as (refused ▷ r) start offset
  unfolding found_as
  found_stays h = rw (stops refused r h, ne_eqb refused.number 0 h)

-- of a refused bucket nothing is kept
found_zeros : (refused : Refusal) (start offset : ℕ) → ((found_as refused start offset).refused.number ≡ 0 → ⊥)
    → found_as refused start offset ≡ record { start = 0; offset = 0; refused = (found_as refused start offset).refused }
unfolding found_as
found_zeros refused start offset h = rw (ne_eqb refused.number 0 h)

module _ (big : Bool) (f : List ℕ) (size : ℕ) (x : Index) (cells : Cells) (row : ℕ) where
  abbrev step : Found → ℕ → Found
  step = bucket_into big f size x cells row

  step_zeros : (found : Found) (i : ℕ) → ((step found i).refused.number ≡ 0 → ⊥) → step found i ≡ record { start = 0; offset = 0; refused = (step found i).refused }
  unfolding bucket_into ◌>>=◌
  step_zeros found i h = found_zeros _ _ _ h

  -- no further turn changes a refused state
  search_still : (refused : Refusal) → (refused.number ≡ 0 → ⊥) → (j : ℕ)
      → step (record { start = 0; offset = 0; refused = refused }) j ≡ record { start = 0; offset = 0; refused = refused }
  unfolding bucket_into
  search_still refused h j =
      sym (
      via _ refl (via _ refl (via _ refl (via _ refl (via _ refl (via _ refl (via _ refl (via _ refl (via _ refl (
      found_stays _ _ _ _ h))))))))))

  pub search_stop : (n i : ℕ) {found : Found} {why : Refusal} → found ≡ after step nothing i → i < n → Refuses why (step found i) → Refuses why (after step nothing n)
  search_stop n i {found} {why} v l r =
      let h : (step found i).refused.number ≡ 0 → ⊥ = λ y. r.1 (ap (λ (w : Refusal). w.number) r.0 ∙ y) in
      let z = step_zeros found i h in
      let q : step found i ≡ after step nothing n =
      after_stop _ _ (i + 1) n (after_more _ _ i v refl) (omega arith) (λ j. ap (λ (y : Found). step y j) z ∙ search_still (step found i).refused h j ∙ sym z) in
      (r.0 ∙ ap (λ (y : Found). y.refused) q, r.1)

  -- entry i, by what was read of it
  module _ (found : Found) (i : ℕ) (h : found.refused.number ≡ 0) {b first past at rows local : ℕ} {one : Value}
      (eb : b ≡ bucket_number big f x i) (ef : first ≡ first_row big f x i) (ep : past ≡ first_row big f x (i + 1))
      (ea : at ≡ bucket_start size b) (er : rows ≡ past - first) (el : local ≡ row - first)
      (eo : one ≡ bucket_at f at size big rows local cells.column cells.bytes cells.count) where
    pub bucket_on : {start offset : ℕ} → one.next.refused ≡ 0 → start ≡ cond (leb first row) at found.start → offset ≡ cond (leb first row) one.value found.offset
        → found_at start offset ≡ step found i
    unfolding bucket_into
    bucket_on z p q =
        via _ eb (via _ ef (via _ ep (via _ ea (via _ er (via _ el (via _ eo (via _ p (via _ q (
        found_on _ _ _ _ h (clear_blaming _ _ z))))))))))

    -- one that begins with the row or before it, and one that begins after it
    pub bucket_here : one.next.refused ≡ 0 → first ≤ row → step found i ≡ found_at at one.value
    bucket_here z l = sym (bucket_on z (rw (le-leb first row l) refl) (rw (le-leb first row l) refl))

    pub bucket_past : one.next.refused ≡ 0 → row < first → step found i ≡ found_at found.start found.offset
    bucket_past z l = sym (bucket_on z (rw (lt-leb first row l) refl) (rw (lt-leb first row l) refl))

    bucket_zeros : (one.next.refused ≡ 0 → ⊥) → record { start = 0; offset = 0; refused = refusal_in one.next } ≡ step found i
    unfolding bucket_into
    bucket_zeros z =
        via _ eb (via _ ef (via _ ep (via _ ea (via _ er (via _ el (via _ eo (via _ refl (via _ refl (
        found_off _ _ _ _ h z)))))))))

    pub bucket_off : (one.next.refused ≡ 0 → ⊥) → {why : Refusal} → why ≡ refusal_in one.next → Refuses why (step found i)
    bucket_off z {why} e = (e ∙ ap (λ (y : Found). y.refused) (bucket_zeros z), λ y. z (rw e at y))

  -- the row's own bucket, where the row is there and where it is not
  pub own_on : (rows : ℕ) {i : ℕ} → row < rows → i ≡ entry_of big f x row → step nothing i ≡ own_bucket rows big f size x cells row
  unfolding own_bucket
  own_on rows l e = rw (yes_is (ltb row rows) 9 0 (lt-ltb row rows l), ← e) refl

  own_zeros : (rows : ℕ) → rows ≤ row → own_bucket rows big f size x cells row ≡ record { start = 0; offset = 0; refused = blaming 9 0 }
  unfolding own_bucket
  own_zeros rows l = rw (no_is (ltb row rows) 9 0 (le-ltb row rows l)) (search_still (blaming 9 0) (omega arith) _)

  pub own_off : (rows : ℕ) → rows ≤ row → Refuses (blaming 9 0) (own_bucket rows big f size x cells row)
  own_off rows l = (sym (ap (λ (y : Found). y.refused) (own_zeros rows l)), λ z. omega arith)
