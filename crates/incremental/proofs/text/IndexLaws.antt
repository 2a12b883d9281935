-- The lists of an index that is not refused lie in the file.
-- Assumes nothing.
use mathlib.Core.Bool.{Bool, false}
use mathlib.Core.Path.{◌≡◌, refl}
use mathlib.Core.List.{List}
use Prim.Native.Nat.{ℕ, ◌+◌}
use native.Mathlib.Omega.{arith}
use lib.ListN.{length}
use lib.Dec.{eqb}
use Rattle.bytes_at.specs.Number.{int_bytes}
use borrow.Author.Tests.{eq-eqb, ne_eqb}
use native.Mathlib.Decide.{ℕ_discrete}
use Rattle.bytes_at.specs.declared.Refusal.{Refusal}
use Rattle.bytes_at.specs.Stages.{no_refusal}
use Rattle.bytes_at.specs.Bytes.{bytes}
use Rattle.bytes_at.specs.Steps.{◌>>=◌}
use Rattle.aipsio_rules.specs.declared.Cursor.{Cursor}
use Rattle.aipsio_rules.specs.Field.{refusal_in, uint_at, mark_at}
use Rattle.aipsio_rules.specs.Object.{opened, closed, block_at, row_block_at}
use Rattle.aipsio_rules.proofs.Kept.{Clean, clean_before}
use Rattle.aipsio_rules.proofs.ObjectKept.{closed_keeps}
use Rattle.aipsio_rules.proofs.ObjectAccepted.{block_inside, row_block_inside}
use Rattle.aipsio_rules.proofs.Ends.{Stays, ◌then◌, uint_stays, mark_stays}
use Rattle.aipsio_rules.proofs.ObjectEnds.{opened_stays, block_stays, row_block_stays}
use Rattle.incremental_rules.specs.declared.Index.{Index}
use Rattle.incremental_rules.specs.Index.{indexed, index_at}
use Rattle.incremental.specs.Bounds.{IndexInside}

-- the answer: zeros where the cursor is refused
module _ (c : Cursor) (count : ℕ) (wide : Bool) (firsts buckets : ℕ) where
  pub indexed_on : Clean c → record { count = count; wide = wide; firsts = firsts; buckets = buckets; refused = no_refusal } ≡ indexed c count wide firsts buckets
  unfolding indexed
  indexed_on e = rw (eq-eqb c.refused 0 e)

  pub indexed_off : (c.refused ≡ 0 → ⊥) → {why : Refusal} → why ≡ refusal_in c → record { count = 0; wide = false; firsts = 0; buckets = 0; refused = why } ≡ indexed c count wide firsts buckets
  unfolding indexed
  indexed_off e p = rw (ne_eqb c.refused 0 e, p)

  -- an answer with no refusal has the lists that were read
  indexed_clean : (indexed c count wide firsts buckets).refused.number ≡ 0
      → (Clean c) × (indexed c count wide firsts buckets ≡ record { count = count; wide = wide; firsts = firsts; buckets = buckets; refused = no_refusal })
  indexed_clean z =
      elim (ℕ_discrete c.refused 0) [
        | yes e ↦ (e, rw (← (indexed_on e)))
        | no e ↦ absurd (e (rw (← (indexed_off e refl)) at z))
      ]

module _ (s : List ℕ) (big : Bool) (at : ℕ) where
  pub index_inside : (index_at s big at).refused.number ≡ 0 → IndexInside (length s) (index_at s big at)
  unfolding index_at ◌>>=◌
  index_inside z =
      let start : Cursor = record { at = at; end = length s; big = big; refused = 0 } in
      let m = mark_at s start in
      let o = opened s m (bytes "ISMIndex") 1 2 in
      let n = uint_at s o.next in
      let each = int_bytes (eqb o.value 2) in
      let a = row_block_at s n.next (n.value + 1) each in
      let b = block_at s a.next n.value in
      let w = indexed_clean (closed b.next m) n.value (eqb o.value 2) a.value b.value z in
      let start-to-n : Stays start n.next = mark_stays s start then opened_stays s m (bytes "ISMIndex") 1 2 then uint_stays s o.next in
      let start-to-a : Stays start a.next = start-to-n then row_block_stays s n.next (n.value + 1) each in
      let hb : Clean b.next = clean_before (closed_keeps b.next m) w.0 in
      let ha : Clean a.next = clean_before (block_stays s a.next n.value).keeps hb in
      let hn : Clean n.next = clean_before (row_block_stays s n.next (n.value + 1) each).keeps ha in
      rw w.1 (record {
        firsts_inside = omega (arith, row_block_inside s n.next (n.value + 1) each ha, start-to-n.ends hn);
        buckets_inside = omega (arith, block_inside s a.next n.value hb, start-to-a.ends ha);
      })

  pub index_answered : {x : Index} → x ≡ index_at s big at → record { value : x ≡ index_at s big at; inside : x.refused.number ≡ 0 → IndexInside (length s) x }
  index_answered {x} q = record { value = q; inside = λ z. rw q (index_inside (rw q at z)) }
