-- The loops that count the columns of each set, and that compare the counts.
-- Assumes nothing.
use mathlib.Core.Path.{◌≡◌, refl, sym, ap, ◌∙◌}
use mathlib.Core.Bool.{Bool, true, false, cond, ◌&&◌}
use mathlib.Core.List.{List, [], ◌∷◌}
use Prim.Native.Nat.{ℕ, zero, suc, ◌+◌, ◌≤◌, ◌<◌, zero-le}
use native.Mathlib.Decide.{ℕ_discrete, dec_lt}
use native.Mathlib.Numerals.{add-one}
use native.Mathlib.Omega.{arith}
use lib.ListN.{length, get_or, drop, replicate, length-set, get_or-replicate, get_or-eq_default}
use lib.Seq.{get_or-set_same, get_or-set_other}
use lib.Dec.{eqb}
use borrow.Author.Tests.{eq-eqb, ne_eqb}
use Rattle.standard_rules.specs.Map.{MapColumn, bound_to}
use Rattle.standard_rules.specs.declared.Set.{Set}
use Rattle.bytes_at.specs.Lists.{all_from}
use Rattle.std.specs.List.{list_all, zip}
use Rattle.standard.specs.Columns.{one_more, Counted, counts_fit}
use Rattle.standard.proofs.Each.{drop_at}
use Rattle.standard.proofs.columns.Listed.{listed}

-- one more where a test passes
abbrev more : Bool → ℕ → ℕ
more t r = cond t (suc r) r

more_swap : (a b : Bool) (r : ℕ) → more a (more b r) ≡ more b (more a r)
more_swap true true r = refl
more_swap true false r = refl
more_swap false true r = refl
more_swap false false r = refl

more_le : (t : Bool) (r high : ℕ) → r ≤ high → more t r ≤ suc high
more_le true r high h = omega arith
more_le false r high h = omega arith

bound_more : (f : ℕ → MapColumn) (k n i : ℕ)
    → bound_to k (listed f (suc n) i) ≡ more ((f (n + i)).kept && eqb (f (n + i)).set k) (bound_to k (listed f n i))
unfolding listed bound_to
bound_more f k zero i = let e : 0 + i ≡ i = omega arith in rw e
bound_more f k (suc n) i =
    let e : suc n + i ≡ n + suc i = omega arith in
    let t = (f i).kept && eqb (f i).set k in
    rw e (ap (more t) (bound_more f k n (suc i)) ∙ more_swap t ((f (n + suc i)).kept && eqb (f (n + suc i)).set k) (bound_to k (listed f n (suc i))))

bound_le : (f : ℕ → MapColumn) (k n i : ℕ) → bound_to k (listed f n i) ≤ n
unfolding listed bound_to
bound_le f k zero i = zero-le
bound_le f k (suc n) i = more_le ((f i).kept && eqb (f i).set k) (bound_to k (listed f n (suc i))) n (bound_le f k n (suc i))

one_more_at : (kept : Bool) (s : ℕ) (counts : List ℕ) (k : ℕ) → k < length counts
    → get_or (one_more kept s counts) k 0 ≡ more (kept && eqb s k) (get_or counts k 0)
one_more_at false s counts k h = refl
one_more_at true s counts k h = elim (ℕ_discrete s k) [
  | yes e ↦ rw (e, eq-eqb k k refl, get_or-set_same counts k (get_or counts k 0 + 1) 0 h, add-one)
  | no e ↦ rw (ne_eqb s k e) (get_or-set_other counts s k (get_or counts s 0 + 1) 0 (λ q. e (sym q)))
]

one_more_length : (kept : Bool) (s : ℕ) (counts : List ℕ) → length (one_more kept s counts) ≡ length counts
one_more_length true s counts = length-set counts s (get_or counts s 0 + 1)
one_more_length false s counts = refl

zip_none : {A B : Type 0} (xs : List A) → zip {K = A} {X = B} xs [] ≡ []
zip_none [] = refl
zip_none (x ∷ xs) = refl

-- ---- counting: of the columns f 0, f 1, .., n in all, the first i are counted
pub record Counting (f : ℕ → MapColumn) (n : ℕ) (counts : List ℕ) (i : ℕ) : Type 0 where
  pub within : i ≤ n
  pub long : length counts ≡ 16
  pub counted : Counted counts (listed f i 0)

pub counting_start : (f : ℕ → MapColumn) (n : ℕ) → Counting f n (replicate 16 0) 0
unfolding listed bound_to
counting_start f n = record { within = zero-le; long = refl; counted = λ k h. get_or-replicate 16 k 0 0 h }

module _ {f : ℕ → MapColumn} {n : ℕ} {counts : List ℕ} {i : ℕ} (v : Counting f n counts i) where
  -- no count overflows
  pub counting_le : n ≤ 64 → (k : ℕ) → get_or counts k 0 ≤ 64
  counting_le h k = elim (dec_lt k 16) [
    | yes l ↦ omega (arith, v.counted k l, v.within, bound_le f k i 0)
    | no l ↦ omega (arith, get_or-eq_default counts 0 {n = k} (omega (arith, v.long)))
  ]

  pub counting_again : {r : List ℕ} → i < n → r ≡ one_more (f i).kept (f i).set counts → Counting f n r (i + 1)
  counting_again {r} h e =
      let kept = (f i).kept in
      let s = (f i).set in
      record {
        within = omega arith;
        long = ap length e ∙ one_more_length kept s counts ∙ v.long;
        counted = λ k l.
            let z : i + 0 ≡ i = omega arith in
            let step : bound_to k (listed f (suc i) 0) ≡ more (kept && eqb s k) (bound_to k (listed f i 0)) = bound_more f k i 0 ∙ rw z in
            ap (λ x. get_or x k 0) e
            ∙ one_more_at kept s counts k (omega (arith, v.long))
            ∙ ap (more (kept && eqb s k)) (v.counted k l)
            ∙ sym step
            ∙ ap (λ j. bound_to k (listed f j 0)) (sym (add-one i));
      }

-- ---- comparing: whatever columns the counts are of, each count with its set
abbrev pub alike : ℕ × Set → Bool
alike p = eqb p.0 p.1.columns

compared_from : (counts : List ℕ) (l : List MapColumn) → length counts ≡ 16 → Counted counts l → (sets : List Set) (k : ℕ) → k + length sets ≤ 16
    → list_all alike (zip (drop k counts) sets) ≡ counts_fit l k sets
unfolding all_from
compared_from counts l long w [] k h = rw (zip_none (drop k counts))
compared_from counts l long w (s ∷ sets) k h =
    rw (drop_at 0 counts k (omega (arith, long)), add-one, compared_from counts l long w sets (suc k) (omega arith), w k (omega arith))

pub compared : (counts : List ℕ) (sets : List Set) → length counts ≡ 16 → length sets ≤ 16 → (l : List MapColumn) → Counted counts l
    → list_all alike (zip counts sets) ≡ counts_fit l 0 sets
compared counts sets long h l w = compared_from counts l long w sets 0 (omega arith)
