-- A loop that tests last rows one by one: row `from` is the first that those that are left have to cover.
-- Assumes nothing.
use mathlib.Core.Path.{◌≡◌, sym, ap, ◌∙◌}
use mathlib.Core.Bool.{Bool, false}
use mathlib.Core.List.{List, [], ◌∷◌}
use Prim.Native.Nat.{ℕ, ◌+◌, ◌-◌, ◌*◌, ◌≤◌, ◌<◌}
use native.Mathlib.Decide.{dec_le}
use native.Mathlib.Omega.{arith}
use lib.Dec.{eqb}
use borrow.Author.Tests.{le-leb, lt-leb, ne_eqb}
use Rattle.bytes_at.specs.Number.{number_in, numbers_at}
use Rattle.buckets.proofs.marks.Marking.{numbers_turn, numbers_end}
use Rattle.standard_rules.specs.Map.{covers}

-- ---- the rule, one entry at a time
module _ (rows per from : ℕ) {last : ℕ} (lasts : List ℕ) where
  covers_on : from ≤ last → last + 1 ≤ from + per → covers rows per from (last ∷ lasts) ≡ covers rows per (last + 1) lasts
  unfolding covers
  covers_on h l = rw (le-leb from last h, le-leb (last + 1) (from + per) l)

  covers_low : last < from → covers rows per from (last ∷ lasts) ≡ false
  unfolding covers
  covers_low h = rw (lt-leb from last h)

  covers_wide : from ≤ last → from + per < last + 1 → covers rows per from (last ∷ lasts) ≡ false
  unfolding covers
  covers_wide h l = rw (le-leb from last h, lt-leb (last + 1) (from + per) l)

-- no last row brings an end back that is past the rows
covers_past : (rows per from : ℕ) (lasts : List ℕ) → rows < from → covers rows per from lasts ≡ false
unfolding covers
covers_past rows per from [] h = ne_eqb from rows (omega arith)
covers_past rows per from (l ∷ ls) h =
    elim (dec_le from l) [
      | yes g ↦ elim (dec_le (l + 1) (from + per)) [
        | yes w ↦ covers_on rows per from ls g w ∙ covers_past rows per (l + 1) ls (omega arith)
        | no w ↦ covers_wide rows per from ls g (omega arith)
      ]
      | no g ↦ covers_low rows per from ls (omega arith)
    ]

-- ---- the loop: k numbers are tested
pub record Covering (big : Bool) (w : ℕ) (s : List ℕ) (rows per n at k from : ℕ) : Type 0 where
  pub same : covers rows per 0 (numbers_at big w s at n) ≡ covers rows per from (numbers_at big w s (at + k * w) (n - k))

module _ {big : Bool} {w : ℕ} {s : List ℕ} {rows per n at k from : ℕ} (v : Covering big w s rows per n at k from) where
  whole : {last : ℕ} → k < n → last ≡ number_in big w s at k
      → covers rows per 0 (numbers_at big w s at n) ≡ covers rows per from (last ∷ numbers_at big w s (at + (k + 1) * w) (n - (k + 1)))
  whole h e = v.same ∙ ap (covers rows per from) (numbers_turn big w s at n k h e)

  pub covering_again : {last : ℕ} → k < n → last ≡ number_in big w s at k → from ≤ last → last - from < per
      → Covering big w s rows per n at (k + 1) (last + 1)
  covering_again h e g l = record { same = whole h e ∙ covers_on rows per from _ g (omega arith) }

  pub covering_low : {last : ℕ} → k < n → last ≡ number_in big w s at k → last < from → false ≡ covers rows per 0 (numbers_at big w s at n)
  covering_low h e g = sym (whole h e ∙ covers_low rows per from _ g)

  pub covering_wide : {last : ℕ} → k < n → last ≡ number_in big w s at k → from ≤ last → per ≤ last - from
      → false ≡ covers rows per 0 (numbers_at big w s at n)
  covering_wide h e g l = sym (whole h e ∙ covers_wide rows per from _ g (omega arith))

  pub covering_past : {last : ℕ} → k < n → last ≡ number_in big w s at k → from ≤ last → rows ≤ last
      → false ≡ covers rows per 0 (numbers_at big w s at n)
  covering_past {last} h e g l = elim (dec_le (last + 1) (from + per)) [
    | yes q ↦ sym (whole h e ∙ covers_on rows per from _ g q ∙ covers_past rows per (last + 1) _ (omega arith))
    | no q ↦ sym (whole h e ∙ covers_wide rows per from _ g (omega arith))
  ]

  pub covering_end : n ≤ k → eqb from rows ≡ covers rows per 0 (numbers_at big w s at n)
  unfolding covers
  covering_end h = sym (v.same ∙ rw (numbers_end big w s (at + k * w) (n - k) (omega arith)))
