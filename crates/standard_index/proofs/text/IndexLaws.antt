-- What an index text that is not refused gives: the lists of each set lie in the text, and its rows per bucket are in range.
-- Assumes nothing.
use mathlib.Core.Path.{◌≡◌, refl, ◌∙◌}
use mathlib.Core.List.{List}
use mathlib.Core.Bool.{Bool, true, false}
use Prim.Native.Nat.{ℕ, zero, suc, ◌≤◌, ◌<◌}
use native.Mathlib.Decide.{ℕ_discrete}
use native.Mathlib.Nat.{not-suc-le-zero}
use native.Mathlib.Omega.{arith}
use lib.ListN.{length, get_or, length-set, length-replicate}
use lib.Seq.{get_or-set_same, get_or-set_other}
use lib.Dec.{eqb}
use borrow.Author.Tests.{eqb-true, eqb-false}
use Rattle.bytes_at.specs.Number.{int_bytes}
use Rattle.bytes_at.specs.Bytes.{bytes}
use Rattle.bytes_at.specs.Steps.{after, ◌>>=◌}
use Rattle.aipsio_rules.specs.declared.Cursor.{Cursor}
use Rattle.aipsio_rules.specs.Field.{judged, uint_at, number_at, mark_at}
use Rattle.aipsio_rules.specs.Object.{opened, block_at, row_block_at, map_at}
use Rattle.aipsio_rules.proofs.Kept.{Clean, clean_before, judged_keeps}
use Rattle.aipsio_rules.proofs.ObjectKept.{closed_keeps}
use Rattle.aipsio_rules.proofs.Accepted.{ranged_within}
use Rattle.aipsio_rules.proofs.ObjectAccepted.{block_inside, row_block_inside}
use Rattle.standard_rules.specs.declared.Set.{Set}
use Rattle.standard_rules.specs.declared.Sets.{Sets}
use Rattle.standard_rules.specs.declared.Index.{Index}
use Rattle.standard_rules.specs.Index.{ssm_index_at, no_set, set_into, no_sets, sets_at, indexed, index_at}
use Rattle.standard_index.specs.Bounds.{SetInside}
use Rattle.aipsio_rules.proofs.Ends.{Stays, stays_same, ◌then◌, uint_stays, ranged_stays, mark_stays}
use Rattle.aipsio_rules.proofs.ObjectEnds.{opened_stays, map_stays, block_stays, row_block_stays, closed_stays}

-- a set that lies in a text lies in a longer one
pub longer : {a b : ℕ} {x : Set} → a ≤ b → SetInside a x → SetInside b x
longer h w = record {
  lasts_inside = omega arith;
  buckets_inside = omega arith;
  per_least = w.per_least;
  per_most = w.per_most;
}

module _ (s : List ℕ) (c : Cursor) where
  pub set_stays : Stays c (ssm_index_at s c).next
  unfolding ssm_index_at ◌>>=◌
  set_stays =
      closed_stays (mark_stays s c)
      (opened_stays s _ _ 1 2 then uint_stays s _ then ranged_stays s _ 4 1 8388608 3 then uint_stays s _ then map_stays s _ then row_block_stays s _ _ _ then block_stays s _ _)

  pub set_inside : Clean (ssm_index_at s c).next → SetInside c.end (ssm_index_at s c).set
  unfolding ssm_index_at ◌>>=◌
  set_inside e =
      let m = mark_at s c in
      let o = opened s m (bytes "SSMIndex") 1 2 in
      let n = uint_at s o.next in
      let r = number_at s n.next 4 1 8388608 in
      let k = uint_at s r.next in
      let f = map_at s k.next in
      let w = int_bytes (eqb o.value 2) in
      let l = row_block_at s f n.value w in
      let b = block_at s l.next n.value in
      let r-to-f : Stays r.next f = uint_stays s r.next then map_stays s k.next in
      let c-to-f : Stays c f =
      mark_stays s c then opened_stays s m (bytes "SSMIndex") 1 2 then uint_stays s o.next then ranged_stays s n.next 4 1 8388608 3 then r-to-f
      in
      let c-to-l : Stays c l.next = c-to-f then row_block_stays s f n.value w in
      let hb : Clean b.next = clean_before (closed_keeps b.next m) e in
      let hl : Clean l.next = clean_before (block_stays s l.next n.value).keeps hb in
      let hf : Clean f = clean_before (row_block_stays s f n.value w).keeps hl in
      let hr : Clean r.next = clean_before r-to-f.keeps hf in
      let p = ranged_within s n.next 4 1 8388608 3 hr in
      record {
        lasts_inside = omega (arith, row_block_inside s f n.value w hl, c-to-f.ends hf);
        buckets_inside = omega (arith, block_inside s l.next n.value hb, c-to-l.ends hl);
        per_least = p.0;
        per_most = p.1;
      }

-- the first n sets lie in a text that ends at `end`
pub record AllInside (end n : ℕ) (l : List Set) : Type 0 where
  pub long : length l ≡ 16
  pub each_inside : (k : ℕ) → k < n → SetInside end (get_or l k no_set)

module _ (s : List ℕ) (c : Cursor) where
  turns_stay : (n : ℕ) → Stays c (after (set_into s) (no_sets c) n).next
  unfolding after set_into ◌>>=◌
  turns_stay zero = stays_same c
  turns_stay (suc n) = turns_stay n then set_stays s _

  turns_inside : (n : ℕ) → n ≤ 16 → Clean (after (set_into s) (no_sets c) n).next → AllInside c.end n (after (set_into s) (no_sets c) n).sets
  unfolding after set_into ◌>>=◌
  turns_inside zero h e = record { long = length-replicate 16 no_set; each_inside = λ k l. absurd (not-suc-le-zero l) }
  turns_inside (suc n) h e =
      let all = after (set_into s) (no_sets c) n in
      let one = ssm_index_at s all.next in
      let q : Clean all.next = clean_before (set_stays s all.next).keeps e in
      let v = turns_inside n (omega arith) q in
      let w = longer ((turns_stay n).ends q) (set_inside s all.next e) in
      record {
        long = length-set all.sets n one.set ∙ v.long;
        each_inside = λ k l. elim (ℕ_discrete k n) [
          | yes p ↦ rw (p, get_or-set_same all.sets n one.set no_set (omega (arith, v.long))) w
          | no p ↦ rw (get_or-set_other all.sets n k one.set no_set p) (v.each_inside k (omega arith))
        ];
      }

-- an answer with no refusal has the sets that were read
indexed_clean : (c : Cursor) (all : Sets) → (indexed c all).refused.number ≡ 0 → (Clean c) × ((indexed c all).sets ≡ all.sets)
unfolding indexed
indexed_clean c all e = go (eqb c.refused 0) refl
  where
    go : (z : Bool) → eqb c.refused 0 ≡ z → (Clean c) × ((indexed c all).sets ≡ all.sets)
    go true q = (eqb-true c.refused 0 q, rw q)
    go false q = absurd (eqb-false c.refused 0 q (rw q at e))

module _ (s : List ℕ) (big : Bool) (n : ℕ) (h : n ≤ 16) where
  -- The lists of each set of an index text that is not refused lie in the text.
  pub index_inside : (index_at s big n).refused.number ≡ 0 → (k : ℕ) → k < n → SetInside (length s) (get_or (index_at s big n).sets k no_set)
  unfolding index_at sets_at ◌>>=◌
  index_inside e k l =
      let start : Cursor = record { at = 0; end = length s; big = big; refused = 0 } in
      let all = after (set_into s) (no_sets start) n in
      let w = indexed_clean (judged all.next all.next.at (eqb all.next.at all.next.end) 7) all e in
      rw w.1 ((turns_inside s start n h (clean_before (judged_keeps all.next _ _ 7) w.0)).each_inside k l)

  pub index_answered : {ix : Index} → ix ≡ index_at s big n
      → record { value : ix ≡ index_at s big n; inside : ix.refused.number ≡ 0 → (k : ℕ) → k < n → SetInside (length s) (get_or ix.sets k no_set) }
  index_answered {ix} q = record { value = q; inside = λ e k l. rw q (index_inside (rw q at e) k l) }
