-- The ways out of the check. Assumes nothing.
use mathlib.Core.Path.{◌≡◌, sym, ap, ◌∙◌}
use mathlib.Core.Bool.{Bool, true, false}
use mathlib.Core.List.{List, map}
use Prim.Native.Nat.{ℕ, ◌≤◌, ◌<◌}
use native.Mathlib.Omega.{arith}
use borrow.Author.Tests.{ne_eqb, le-leb, lt-leb}
use lib.Dec.{leb}
use lib.ListN.{length, get_or, take, get_or-eq_default}
use Rattle.bytes_at.specs.Stages.{no_refusal, blaming, ◌▷◌, or_no}
use Rattle.bytes_at.specs.declared.Refusal.{Refusal}
use Rattle.bytes_at.proofs.Stages.{stops, goes, regroup, no_is, yes_is, passes}
use Rattle.table_rules.specs.declared.Description.{Description}
use Rattle.buckets.specs.Area.{Area}
use Rattle.buckets.specs.Stages.{before_buckets}
use Rattle.standard_rules.specs.Index.{index_ok, index_text, free_ok, no_set, index_at, index_text_of}
use Rattle.standard_rules.specs.Check.{padded, refusal_with, checked_with}
use Rattle.standard_index.proofs.chain.Room.{index_long, padded_text}
use Rattle.standard_rules.specs.Map.{MapColumn, fits, map_set, sets_from, map_from, map_with, columns_of}
use Rattle.standard_rules.specs.declared.Header.{Header}
use Rattle.standard_rules.specs.Header.{header_at}
use Rattle.standard_rules.specs.declared.Set.{Set}
use Rattle.standard_rules.specs.declared.Index.{Index}
use Rattle.standard_rules.specs.declared.Checked.{Checked}
use Rattle.standard.specs.Check.{refused_file}
use Rattle.standard.proofs.sets.Sets.{sets_are}

-- a set that is asked for past the end
pub set_past : (sets : List Set) (k : ℕ) {s : Set} → length sets ≡ 16 → 16 ≤ k → s ≡ no_set → s ≡ get_or sets k no_set
set_past sets k long h e = e ∙ sym (get_or-eq_default sets no_set {n = k} (omega arith))

-- The whole refusal, and what is answered. h is the header that was read.
module _ (d : Description) (sequence : ℕ) (f : List ℕ) (refused : Refusal) (k l : ℕ) (h : Header) (e : h ≡ header_at f d.big) where
  abbrev cs : List MapColumn
  cs = columns_of d sequence

  -- the refusal is n
  abbrev Refuses : Refusal → Type 0
  Refuses n = refusal_with d.rows d.big cs f refused l ≡ n

  -- what is answered, and what is then said of the room
  abbrev Answers : Checked → Type 0 → Type 0
  Answers r X = (r ≡ checked_with d.rows d.big cs f refused k l) × (r.refused.number ≡ 0 → X)

  abbrev first : Refusal
  first = before_buckets refused h.refused (length f) h.size h.count

  abbrev indexed : Bool
  indexed = index_ok f h.size h.count h.index_count h.first_index h.offset h.length

  abbrev freed : Bool
  freed = free_ok f h.size h.count h.free_count h.first_free

  -- the map as the code has it: over the header, the text and the sets that were read
  abbrev fitting : Bool
  fitting = fits (map_from d.rows cs f h (sets_from d.big (index_text_of f h) (index_at (index_text_of f h) d.big h.sets).sets h.sets 0))

  same_map : fits (map_with d.rows d.big cs f) ≡ fitting
  unfolding map_with
  same_map = rw (← e)

  staged : Refuses (first ▷ (or_no (leb h.length l) 13 ▷ (or_no indexed 10 ▷ ((index_at (index_text_of f h) d.big h.sets).refused ▷ (or_no freed 10 ▷ or_no fitting 11)))))
  unfolding refusal_with before_buckets
  staged = rw (same_map, ← e) (sym (rw (regroup, regroup)))

  -- the answer is refused with n, and nothing is said of the room
  out : (n : Refusal) {r : Checked} {X : Type 0} → Refuses n → (n.number ≡ 0 → ⊥) → r ≡ refused_file n → Answers r X
  unfolding checked_with refused_file
  out n q z p = (p ∙ sym (rw (q, ne_eqb n.number 0 z)), λ w. absurd (z (sym (ap (λ (x : Checked). x.refused.number) p) ∙ w)))

  pub out_first : (n : Refusal) {r : Checked} {X : Type 0} → n ≡ first → (n.number ≡ 0 → ⊥) → r ≡ refused_file n → Answers r X
  out_first n q z p = out n (staged ∙ rw (← q) (stops n _ z)) z p

  module _ (z : first.number ≡ 0) where
    pub out_room : {r : Checked} {X : Type 0} → l < h.length → r ≡ refused_file (blaming 13 0) → Answers r X
    out_room w p = out (blaming 13 0) (staged ∙ goes _ _ z ∙ rw (no_is (leb h.length l) 13 0 (lt-leb h.length l w)) (stops (blaming 13 0) _ (omega arith))) (omega arith) p

    module _ (w : h.length ≤ l) where
      after_room : Refuses (or_no indexed 10 ▷ ((index_at (index_text_of f h) d.big h.sets).refused ▷ (or_no freed 10 ▷ or_no fitting 11)))
      after_room = staged ∙ goes _ _ z ∙ goes _ _ (passes (leb h.length l) 13 0 (le-leb h.length l w))

      -- the buckets are the file's
      module _ {g : List ℕ} {size count : ℕ} (eg : g ≡ f) (es : size ≡ h.size) (ec : count ≡ h.count) {i : Bool}
          (a : i ≡ index_ok g size count h.index_count h.first_index h.offset h.length) where
        index_is : i ≡ indexed
        index_is = a ∙ rw (eg, es, ec)

        pub out_index : {r : Checked} {X : Type 0} → i ≡ false → r ≡ refused_file (blaming 10 0) → Answers r X
        out_index b p = out (blaming 10 0) (after_room ∙ rw (no_is indexed 10 0 (sym index_is ∙ b)) (stops (blaming 10 0) _ (omega arith))) (omega arith) p

        module _ (b : i ≡ true) (area : Area g size count) {x : List ℕ} (q : i ≡ true → x ≡ padded l (index_text g size h.index_count h.first_index h.offset h.length)) where
          room_is : x ≡ padded l (index_text_of f h)
          unfolding index_text_of
          room_is = q b ∙ rw (eg, es)

          text_is : take h.length x ≡ index_text_of f h
          unfolding index_text_of
          text_is =
              let long : length (index_text g size h.index_count h.first_index h.offset h.length) ≡ h.length = index_long g _ _ _ _ _ _ area (rw (← a, b) tt) in
              let text : take h.length x ≡ index_text g size h.index_count h.first_index h.offset h.length = rw (q b) (padded_text l _ h.length long) in
              text ∙ rw (eg, es)

          module _ {ix : Index} (y : ix ≡ index_at (take h.length x) d.big h.sets) where
            sets_read : ix ≡ index_at (index_text_of f h) d.big h.sets
            sets_read = y ∙ ap (λ (t : List ℕ). index_at t d.big h.sets) text_is

            after_index : Refuses (ix.refused ▷ (or_no freed 10 ▷ or_no fitting 11))
            after_index = after_room ∙ goes _ _ (passes indexed 10 0 (sym index_is ∙ b)) ∙ rw sets_read

            pub out_text : {r : Checked} {X : Type 0} → (ix.refused.number ≡ 0 → ⊥) → r ≡ refused_file ix.refused → Answers r X
            out_text v p = out ix.refused (after_index ∙ stops ix.refused _ v) v p

            module _ (v : ix.refused.number ≡ 0) {o : Bool} (c : o ≡ free_ok g size count h.free_count h.first_free) where
              free_is : o ≡ freed
              free_is = c ∙ rw (eg, es, ec)

              pub out_free : {r : Checked} {X : Type 0} → o ≡ false → r ≡ refused_file (blaming 10 0) → Answers r X
              out_free t p = out (blaming 10 0) (after_index ∙ goes _ _ v ∙ rw (no_is freed 10 0 (sym free_is ∙ t)) (stops (blaming 10 0) _ (omega arith))) (omega arith) p

              module _ (t : o ≡ true) (few : h.sets ≤ length ix.sets) {m : Bool} (u : m ≡ fits (map_from d.rows cs g h (map (map_set d.big (take h.length x)) (take h.sets ix.sets)))) where
                map_is : m ≡ fitting
                map_is = u ∙ rw (eg, text_is, ← (sets_are d.big (index_text_of f h) ix.sets h.sets few), sets_read)

                after_free : Refuses (or_no m 11)
                after_free = after_index ∙ goes _ _ v ∙ goes _ _ (passes freed 10 0 (sym free_is ∙ t)) ∙ rw map_is

                pub out_map : {r : Checked} {X : Type 0} → m ≡ false → r ≡ refused_file (blaming 11 0) → Answers r X
                out_map j p = out (blaming 11 0) (after_free ∙ no_is m 11 0 j) (omega arith) p

                pub taken : {s : Set} → m ≡ true → s ≡ get_or ix.sets k no_set
                    → Answers (record { refused = no_refusal; size = h.size; set = s }) (x ≡ padded l (index_text_of f (header_at f d.big)))
                unfolding checked_with
                taken j p = (sym (rw (after_free ∙ yes_is m 11 0 j, ← e, ← sets_read, ← p)), λ _. rw (← e) room_is)
