-- Sets one after the other, as the map has them. Assumes nothing.
use mathlib.Core.Path.{◌≡◌, refl, sym, ap, ◌∙◌}
use mathlib.Core.Bool.{Bool, true, false, ◌&&◌}
use mathlib.Core.List.{List, [], ◌++◌, map, append_assoc}
use Prim.Native.Nat.{ℕ, zero, suc, ◌+◌, ◌≤◌, ◌<◌}
use native.Mathlib.Omega.{arith}
use lib.Dec.{eqb}
use lib.ListN.{length, get_or, take, drop, replicate}
use borrow.Author.Tests.{eq-eqb}
use Rattle.standard_rules.specs.declared.Set.{Set}
use Rattle.standard_rules.specs.Index.{no_set}
use Rattle.standard_rules.specs.Map.{covers, map_set, set_fits, data_of, sets_from}
use Rattle.bytes_at.specs.Lists.{all_apart}
use Rattle.bytes_at.proofs.Listed.{numbers_length}
use Rattle.buckets.proofs.marks.Decided.{marks_no, marks_all}
use Rattle.buckets.proofs.marks.Marking.{Marks, marks_then}
use Rattle.bytes_at.specs.declared.Width.{Width}
use Rattle.bytes_at.specs.Number.{bytes_of, int_width, int_bytes, numbers_at}
use Rattle.standard.proofs.Each.{drop_at, drop_end}

and_true : (b : Bool) → b && true ≡ b
and_true true = refl
and_true false = refl

module _ (big : Bool) (text : List ℕ) where
  -- both Blocks have as many elements as there are entries; the width of the last rows is as the code has it
  pub fit_is : (rows : ℕ) (s : Set) {width : Width} {r : Bool} → width ≡ int_width s.wide
      → r ≡ covers rows s.per 0 (numbers_at big (bytes_of width) text s.lasts s.entries) → r ≡ set_fits rows (map_set big text s)
  fit_is rows s {width} {r} w e =
      let same : eqb (length (numbers_at big 4 text s.buckets s.entries)) (length (numbers_at big (int_bytes s.wide) text s.lasts s.entries)) ≡ true
      = eq-eqb _ _ (numbers_length big 4 text s.buckets s.entries ∙ sym (numbers_length big (int_bytes s.wide) text s.lasts s.entries)) in
      e ∙ ap (λ (x : Width). covers rows s.per 0 (numbers_at big (bytes_of x) text s.lasts s.entries)) w
      ∙ rw same (sym (and_true (covers rows s.per 0 (numbers_at big (int_bytes s.wide) text s.lasts s.entries))))

  pub data_more : (sets : List Set) (k : ℕ) → k < length sets
      → data_of (map (map_set big text) (drop k sets))
      ≡ numbers_at big 4 text (get_or sets k no_set).buckets (get_or sets k no_set).entries ++ data_of (map (map_set big text) (drop (k + 1) sets))
  unfolding data_of
  data_more sets k h = rw (drop_at no_set sets k h)

  pub data_none : (sets : List Set) (k : ℕ) → length sets ≤ k → data_of (map (map_set big text) (drop k sets)) ≡ []
  unfolding data_of
  data_none sets k h = rw (drop_end sets k h)

  -- the sets of a map, of a list that has more places
  sets_after : (sets : List Set) (n i : ℕ) → i + n ≤ length sets → sets_from big text sets n i ≡ map (map_set big text) (take n (drop i sets))
  unfolding sets_from
  sets_after sets zero i h = refl
  sets_after sets (suc n) i h =
      let e : i + 1 ≡ suc i = omega arith in
      rw (drop_at no_set sets i (omega arith), e, sets_after sets n (suc i) (omega arith))

  pub sets_are : (sets : List Set) (n : ℕ) → n ≤ length sets → sets_from big text sets n 0 ≡ map (map_set big text) (take n sets)
  sets_are sets n h = sets_after sets n 0 (omega arith)

-- the marks of three lists, one after the other, decide the rule
module _ (nb : ℕ) (h : nb ≤ 4096) (xs ys zs : List ℕ) where
  whole : {r : Bool} → r ≡ all_apart nb (xs ++ ys ++ zs) → r ≡ all_apart nb (xs ++ (ys ++ zs))
  whole e = e ∙ rw (append_assoc xs ys zs)

  pub apart_first : {t : List ℕ} {r : Bool} → Marks nb (replicate 4096 0) xs t r → r ≡ false → false ≡ all_apart nb (xs ++ (ys ++ zs))
  apart_first v q = marks_no nb 4096 h xs (ys ++ zs) v q

  pub apart_second : {t t₂ : List ℕ} {r r₂ : Bool} → Marks nb (replicate 4096 0) xs t r → r ≡ true → Marks nb t ys t₂ r₂ → r₂ ≡ false → false ≡ all_apart nb (xs ++ (ys ++ zs))
  apart_second v q w q₂ = whole (marks_no nb 4096 h (xs ++ ys) zs (marks_then nb _ xs ys v q w) q₂)

  pub apart_third : {t t₂ t₃ : List ℕ} {r r₂ r₃ : Bool} → Marks nb (replicate 4096 0) xs t r → r ≡ true → Marks nb t ys t₂ r₂ → r₂ ≡ true → Marks nb t₂ zs t₃ r₃ → r₃ ≡ all_apart nb (xs ++ (ys ++ zs))
  apart_third v q w q₂ u = whole (marks_all nb 4096 h (xs ++ ys ++ zs) (marks_then nb _ (xs ++ ys) zs (marks_then nb _ xs ys v q w) q₂ u))
