-- Marks decide the rule: the numbers of a list are fresh in their turn, from a table with no marks, where and only where they are in
-- range and all different.
-- Assumes nothing.
use mathlib.Core.Path.{◌≡◌, sym, ◌∙◌}
use mathlib.Core.Bool.{Bool, true, false, cond, ◌&&◌}
use mathlib.Core.List.{List, [], ◌∷◌, ◌++◌}
use Prim.Native.Nat.{ℕ, ◌≤◌, ◌<◌}
use native.Mathlib.Decide.{ℕ_discrete}
use native.Mathlib.Omega.{arith}
use lib.ListN.{length, get_or, set, replicate, length-set, length-replicate, get_or-replicate}
use lib.Seq.{get_or-set_same, get_or-set_other}
use lib.Dec.{T, ltb, eqb, ltb→lt, lt→ltb, eqb→eq}
use store.Enc.{and_l, and_r}
use borrow.Author.Tests.{eq-eqb, ne_eqb}
use Rattle.bytes_at.proofs.Tests.{both, alike, unlike_not, unlike_yes}
use Rattle.bytes_at.specs.Lists.{all, pairs, all_apart, below, unlike}
use Rattle.buckets.specs.Marks.{is_unmarked, all_unmarked}
use Rattle.bytes_at.proofs.MoreTests.{all_any, all_from, all_from_two}
use Rattle.buckets.proofs.marks.Marking.{Marks, fresh_append}

unlike_swap : (a b : ℕ) → T (unlike a b) → T (unlike b a)
unlike_swap a b t = unlike_yes b a (λ e. unlike_not a b t (sym e))

-- b is not in s
abbrev absent : List ℕ → ℕ → Bool
absent s b = all (unlike b) s

-- the table t has a mark at each number below nb that is in s, and no other
record Table (nb : ℕ) (t s : List ℕ) : Type 0 where
  long : nb ≤ length t
  marks : (b : ℕ) → b < nb → get_or t b 0 ≡ cond (absent s b) 0 1

table_none : (nb m : ℕ) → nb ≤ m → Table nb (replicate m 0) []
unfolding all
table_none nb m h = record {
  long = rw length-replicate h;
  marks = λ b l. get_or-replicate m b 0 0 (omega arith);
}

table_more : {nb : ℕ} {t s : List ℕ} (x : ℕ) → x < nb → Table nb t s → Table nb (set t x 1) (x ∷ s)
unfolding all
table_more {nb} {t} {s} x h v = record {
  long = rw length-set v.long;
  marks = λ b l.
      elim (ℕ_discrete b x) [
        | yes e ↦ rw (eq-eqb b x e, e, get_or-set_same t x 1 0 (omega (arith, v.long)))
        | no ne ↦ rw (ne_eqb b x ne, get_or-set_other t x b 1 0 ne) (v.marks b l)
      ];
}

-- a number is fresh where it is in range and absent
unmarked : (p : Bool) → ◌≡◌ {A = ℕ} (cond p 0 1) 0 → T p
unmarked true e = tt
unmarked false e = absurd (omega arith)

fresh_absent : {nb : ℕ} {t s : List ℕ} (x : ℕ) → Table nb t s → T (is_unmarked nb t x) → (x < nb) × T (absent s x)
unfolding is_unmarked
fresh_absent {nb} {t} {s} x v h =
    let in_range = ltb x nb in
    let free = eqb (get_or t x 0) 0 in
    let l : x < nb = ltb→lt x nb (and_l in_range free h) in
    (l, unmarked (absent s x) (sym (v.marks x l) ∙ eqb→eq (get_or t x 0) 0 (and_r in_range free h)))

absent_fresh : {nb : ℕ} {t s : List ℕ} (x : ℕ) → Table nb t s → T (ltb x nb) → T (absent s x) → T (is_unmarked nb t x)
unfolding is_unmarked
absent_fresh {nb} {t} {s} x v l h = both (ltb x nb) (eqb (get_or t x 0) 0) l (rw (v.marks x (ltb→lt x nb l)) (go (absent s x) h))
  where
    go : (p : Bool) → T p → T (eqb (cond p 0 1) 0)
    go true h = tt
    go false h = absurd h

-- a list, over a table with marks at s
record Apart (nb : ℕ) (s xs : List ℕ) : Type 0 where
  range : T (all (below nb) xs)
  new : T (all (absent s) xs)
  once : T (pairs unlike xs)

fresh_apart : (nb : ℕ) (t s xs : List ℕ) → Table nb t s → T (all_unmarked nb t xs) → Apart nb s xs
unfolding all_unmarked all pairs
fresh_apart nb t s [] v h = record { range = tt; new = tt; once = tt }
fresh_apart nb t s (x ∷ xs) v h =
    let front = is_unmarked nb t x in
    let rest = all_unmarked nb (set t x 1) xs in
    let a = fresh_absent x v (and_l front rest h) in
    let r = fresh_apart nb (set t x 1) (x ∷ s) xs (table_more x a.0 v) (and_r front rest h) in
    record {
      range = both (ltb x nb) (all (below nb) xs) (lt→ltb x nb a.0) r.range;
      new = both (absent s x) (all (absent s) xs) a.1 (all_from (absent s) (absent (x ∷ s)) (λ y q. and_r (unlike y x) (absent s y) q) xs r.new);
      once =
          both (all (unlike x) xs) (pairs unlike xs)
          (all_from (unlike x) (absent (x ∷ s)) (λ y q. unlike_swap y x (and_l (unlike y x) (absent s y) q)) xs r.new)
          r.once;
    }

apart_fresh : (nb : ℕ) (t s xs : List ℕ) → Table nb t s → Apart nb s xs → T (all_unmarked nb t xs)
unfolding all_unmarked all pairs
apart_fresh nb t s [] v a = tt
apart_fresh nb t s (x ∷ xs) v a =
    let l : T (ltb x nb) = and_l (ltb x nb) (all (below nb) xs) a.range in
    let later = and_l (all (unlike x) xs) (pairs unlike xs) a.once in
    let r : Apart nb (x ∷ s) xs = record {
      range = and_r (ltb x nb) (all (below nb) xs) a.range;
      new =
          all_from_two (absent (x ∷ s)) (unlike x) (absent s)
          (λ y p q. both (unlike y x) (absent s y) (unlike_swap x y p) q) xs
          later (and_r (absent s x) (all (absent s) xs) a.new);
      once = and_r (all (unlike x) xs) (pairs unlike xs) a.once;
    } in
    both (is_unmarked nb t x) (all_unmarked nb (set t x 1) xs)
    (absent_fresh x v l (and_l (absent s x) (all (absent s) xs) a.new))
    (apart_fresh nb (set t x 1) (x ∷ s) xs (table_more x (ltb→lt x nb l) v) r)

-- over a table with no marks
pub fresh_is : (nb m : ℕ) (xs : List ℕ) → nb ≤ m → all_unmarked nb (replicate m 0) xs ≡ all_apart nb xs
unfolding all_apart all
fresh_is nb m xs h =
    let v = table_none nb m h in
    let range = all (below nb) xs in
    let once = pairs unlike xs in
    alike (all_unmarked nb (replicate m 0) xs) (range && once)
    (λ t. let a = fresh_apart nb (replicate m 0) [] xs v t in both range once a.range a.once)
    (λ t.
    apart_fresh nb (replicate m 0) [] xs v
    (record { range = and_l range once t; new = all_any (absent []) (λ x. tt) xs; once = and_r range once t }))

-- ---- lists that are marked one after the other, from a table with no marks: one that is not fresh, and the last
module _ (nb m : ℕ) (h : nb ≤ m) where
  pub marks_no : (xs ys : List ℕ) {t : List ℕ} {r : Bool} → Marks nb (replicate m 0) xs t r → r ≡ false → false ≡ all_apart nb (xs ++ ys)
  marks_no xs ys v q = sym (sym (fresh_is nb m (xs ++ ys) h) ∙ rw (fresh_append nb (replicate m 0) xs ys, ← v.0, q))

  pub marks_all : (xs : List ℕ) {t : List ℕ} {r : Bool} → Marks nb (replicate m 0) xs t r → r ≡ all_apart nb xs
  marks_all xs v = v.0 ∙ fresh_is nb m xs h
