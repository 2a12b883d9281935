-- The room afterwards: kept or cleared. Assumes nothing.
use mathlib.Core.Path.{◌≡◌, refl, sym, ap, ◌∙◌}
use mathlib.Core.Bool.{Bool, true, false, ◌&&◌, not, false≢true}
use mathlib.Core.List.{List}
use Prim.Native.Nat.{ℕ}
use native.Mathlib.Decide.{ℕ_discrete}
use lib.Dec.{eqb}
use lib.ListN.{length, replicate}
use borrow.Author.Tests.{eq-eqb, ne_eqb}
use Rattle.table_rules.specs.Table.{described_as}
use Rattle.standard_rules.specs.Check.{padded}
use Rattle.standard_rules.specs.Header.{header_at}
use Rattle.standard_rules.specs.Index.{index_text_of}
use Rattle.lookup_rules.specs.declared.Question.{Question}
use Rattle.lookup_rules.specs.declared.Request.{Request}
use Rattle.lookup_rules.specs.declared.Staged.{Staged}
use Rattle.lookup_rules.specs.Questions.{request_of, stages_of, room_for, room_after}
use Rattle.lookup.specs.Answering.{keeps_text, room_settled}

-- what is kept is not refused, and is a StandardStMan's
kept_first : (n : ℕ) (i : Bool) → eqb n 0 && not i ≡ true → n ≡ 0
kept_first n i h = elim (ℕ_discrete n 0) [ yes e ↦ e | no x ↦ absurd (false≢true (rw (ne_eqb n 0 x) at h)) ]

kept_second : (n : ℕ) (i : Bool) → eqb n 0 && not i ≡ true → i ≡ false
kept_second n false h = refl
kept_second n true h = elim (ℕ_discrete n 0) [ yes e ↦ absurd (false≢true (rw (eq-eqb n 0 e) at h)) | no x ↦ absurd (false≢true (rw (ne_eqb n 0 x) at h)) ]

-- a room that is kept or cleared
module _ (t f : List ℕ) (r : Request) (l : ℕ) where
  room_by : {s : Staged} {x x' : List ℕ} → s ≡ stages_of t f r l
      → (s.refused.number ≡ 0 → s.incremental ≡ false → x ≡ padded l (index_text_of f (header_at f (described_as t).big))) → length x ≡ l
      → (k : Bool) → k ≡ keeps_text s → x' ≡ room_settled k x → x' ≡ room_for t f r l
  unfolding room_settled room_for
  room_by {s} {x} {x'} es h el true ek ex =
      rw (← es, ← ek) (ex ∙ h (kept_first s.refused.number s.incremental (sym ek)) (kept_second s.refused.number s.incremental (sym ek)))
  room_by {s} {x} {x'} es h el false ek ex = rw (← es, ← ek) (ex ∙ ap (λ (k : ℕ). replicate k 0) el)

-- of a question, by what it asks for
pub room_is : (t f : List ℕ) (q : Question) (l : ℕ) {r : Request} {s : Staged} {x x' : List ℕ} {k : Bool} → r ≡ request_of q → s ≡ stages_of t f r l
    → (s.refused.number ≡ 0 → s.incremental ≡ false → x ≡ padded l (index_text_of f (header_at f (described_as t).big))) → length x ≡ l
    → k ≡ keeps_text s → x' ≡ room_settled k x → x' ≡ room_after t f q l
room_is t f q l {r} {s} {x} {x'} {k} o es h el ek ex = room_by t f r l es h el k ek ex ∙ ap (λ (y : Request). room_for t f y l) o
