-- The numbers of an index are right exactly when they meet the sentence's clauses. The way back takes from the free list's chain, which
-- ends, that its buckets are in range and all different.
-- Assumes nothing.
use mathlib.Core.Path.{◌≡◌, sym, ap, ◌∙◌}
use mathlib.Core.List.{List, [], ◌∷◌, ◌++◌}
use mathlib.Core.Bool.{Bool}
use Prim.Native.Nat.{ℕ, zero, suc, ◌+◌, ◌≤◌, ◌<◌}
use native.Mathlib.Numerals.{add-one}
use native.Mathlib.Omega.{arith}
use lib.ListN.{length, get_or}
use lib.Dec.{T, ltb, eqb, ltb→lt, lt→ltb, eqb→eq, eqb_refl}
use store.Enc.{and_l, and_r}
use Rattle.bytes_at.specs.Number.{int_bytes, uint_of, numbers_at}
use Rattle.bytes_at.specs.Lists.{all_apart}
use Rattle.bytes_at.proofs.Tests.{both}
use Rattle.bytes_at.proofs.Apart.{one_place, apart_different, apart_joined, front_apart, front_below, front_back, apart_across}
use Rattle.bytes_at.proofs.Listed.{numbers_length, number_at}
use Rattle.standard_rules.specs.Index.{free_ok}
use Rattle.standard_rules.proofs.Counted.{links_long, free_below, free_once}
use Rattle.incremental_rules.specs.declared.Header.{Header}
use Rattle.incremental_rules.specs.declared.Index.{Index}
use Rattle.incremental_rules.specs.Index.{first_row, bucket_number, free_buckets, rises_to, firsts_fit, index_fits, IndexAccepted}

-- ---- first rows
module _ (rows : ℕ) where
  rises_at : (last : ℕ) (l : List ℕ) → T (rises_to rows last l) → (i : ℕ) → i < length l → get_or (last ∷ l) i 0 < get_or l i 0
  unfolding rises_to
  rises_at last [] t i h = absurd (omega arith)
  rises_at last (x ∷ xs) t zero h = ltb→lt last x (and_l (ltb last x) _ t)
  rises_at last (x ∷ xs) t (suc i) h = rises_at x xs (and_r (ltb last x) _ t) i (omega arith)

  rises_end : (last : ℕ) (l : List ℕ) → T (rises_to rows last l) → get_or (last ∷ l) (length l) 0 ≡ rows
  unfolding rises_to
  rises_end last [] t = eqb→eq last rows t
  rises_end last (x ∷ xs) t = rises_end x xs (and_r (ltb last x) _ t)

  rises_yes : (last : ℕ) (l : List ℕ) → ((i : ℕ) → i < length l → get_or (last ∷ l) i 0 < get_or l i 0) → get_or (last ∷ l) (length l) 0 ≡ rows → T (rises_to rows last l)
  unfolding rises_to
  rises_yes last [] h e = rw e (eqb_refl rows)
  rises_yes last (x ∷ xs) h e = both (ltb last x) _ (lt→ltb last x (h 0 (omega arith))) (rises_yes x xs (λ i k. h (suc i) (omega arith)) e)

module _ (rows : ℕ) (big : Bool) (f : List ℕ) (h : Header) (x : Index) where
  -- how many bytes a first row has
  abbrev each : ℕ
  each = int_bytes x.wide

  abbrev numbers : List ℕ
  numbers = numbers_at big 4 f x.buckets x.count

  abbrev firsts : ℕ → List ℕ
  firsts n = numbers_at big each f x.firsts n

  number_is : (i : ℕ) → i < x.count → get_or numbers i 0 ≡ bucket_number big f x i
  number_is i l = number_at big 4 f x.buckets x.count i l

  known : {i : ℕ} → i < x.count → i < length numbers
  known l = rw (numbers_length big 4 f x.buckets x.count) l

  first_is : (n i : ℕ) → i < n → get_or (firsts n) i 0 ≡ first_row big f x i
  first_is n i l = number_at big each f x.firsts n i l

  -- ---- the test says what the sentence does
  module _ (t : T (index_fits rows big f h x)) where
    apart : T (all_apart h.count (numbers ++ free_buckets f h))
    unfolding index_fits
    apart = and_l (all_apart h.count (numbers ++ free_buckets f h)) (firsts_fit rows (firsts (x.count + 1))) t

    rising : T (firsts_fit rows (firsts (suc x.count)))
    unfolding index_fits
    rising = rw add-one at (and_r (all_apart h.count (numbers ++ free_buckets f h)) (firsts_fit rows (firsts (x.count + 1))) t)

    pub index_read : IndexAccepted rows big f h x
    unfolding firsts_fit numbers_at
    index_read =
        let n = x.count in
        let first = uint_of big each f x.firsts in
        let rest = numbers_at big each f (x.firsts + each) n in
        let long : length rest ≡ n = numbers_length big each f (x.firsts + each) n in
        let rises : T (rises_to rows first rest) = and_r (eqb first 0) _ rising in
        record {
          in_range = λ i l. rw (number_is i l) at (front_below h.count numbers (free_buckets f h) apart i (known l));
          different = λ i j l m e.
              let k : i < n = omega arith in
              omega (arith, one_place h.count numbers (front_apart h.count numbers (free_buckets f h) apart) i j (known k) (known m) (number_is i k ∙ e ∙ sym (number_is j m)));
          not_free = λ i j l m e. front_back h.count numbers (free_buckets f h) apart i j (known l) m (number_is i l ∙ e);
          from_zero = sym (first_is (suc n) 0 (omega arith)) ∙ eqb→eq first 0 (and_l (eqb first 0) _ rising);
          rise = λ i l.
              rw (first_is (suc n) i (omega arith), first_is (suc n) (suc i) (omega arith), ← (add-one i)) at (rises_at rows first rest rises i (omega arith));
          to_rows = sym (first_is (suc n) n (omega arith)) ∙ ap (λ (k : ℕ). get_or (first ∷ rest) k 0) (sym long) ∙ rises_end rows first rest rises;
        }

  -- ---- and what the sentence says passes the test
  module _ (a : IndexAccepted rows big f h x) where
    long : length numbers ≡ x.count
    long = numbers_length big 4 f x.buckets x.count

    numbers_apart : T (all_apart h.count numbers)
    numbers_apart =
        apart_different h.count numbers
        (λ i l. let k : i < x.count = omega (arith, long) in rw (number_is i k) (a.in_range i k))
        (λ i j l m e.
        let k : i < x.count = omega (arith, long) in
        let p : j < x.count = omega (arith, long) in
        a.different i j l p (sym (number_is i k) ∙ e ∙ number_is j p))

    firsts_good : T (firsts_fit rows (firsts (suc x.count)))
    unfolding firsts_fit numbers_at
    firsts_good =
        let n = x.count in
        let first = uint_of big each f x.firsts in
        let rest = numbers_at big each f (x.firsts + each) n in
        let long : length rest ≡ n = numbers_length big each f (x.firsts + each) n in
        both (eqb first 0) (rises_to rows first rest)
        (rw (first_is (suc n) 0 (omega arith) ∙ a.from_zero) (eqb_refl 0))
        (rises_yes rows first rest
        (λ i l.
        let k : i < n = omega arith in
        rw (first_is (suc n) i (omega arith), first_is (suc n) (suc i) (omega arith), ← (add-one i)) (a.rise i k))
        (rw long (first_is (suc n) n (omega arith) ∙ a.to_rows)))

    module _ (few : h.count ≤ 4096) (t : T (free_ok f h.size h.count h.free_count h.first_free)) where
      free_apart : T (all_apart h.count (free_buckets f h))
      free_apart =
          let many = links_long f h.size h.free_count h.first_free in
          apart_different h.count (free_buckets f h)
          (λ i l. free_below f h.size h.count few h.free_count h.first_free t i (omega arith))
          (λ i j l m. free_once f h.size h.count few h.free_count h.first_free t i j l (omega arith))

      pub index_passes : T (index_fits rows big f h x)
      unfolding index_fits
      index_passes =
          both (all_apart h.count (numbers ++ free_buckets f h)) (firsts_fit rows (firsts (x.count + 1)))
          (apart_joined h.count numbers (free_buckets f h) numbers_apart
          (apart_across h.count numbers (free_buckets f h) (λ i j l m e. let k : i < x.count = omega (arith, long) in a.not_free i j k m (sym (number_is i k) ∙ e)))
          free_apart)
          (rw add-one firsts_good)
