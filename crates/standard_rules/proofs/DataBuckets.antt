-- "Data buckets of all sets" in one list: a test of the list is a test of each entry's bucket number, and the list's numbers are all
-- different where those of the entries are.
-- Assumes nothing.
use mathlib.Core.Path.{◌≡◌, refl, ap, sym}
use mathlib.Core.Bool.{Bool}
use mathlib.Core.List.{List, [], ◌∷◌, ◌++◌}
use Prim.Native.Nat.{ℕ, zero, suc, ◌<◌}
use native.Mathlib.Omega.{arith}
use lib.ListN.{length, get_or}
use lib.Dec.{T}
use store.Enc.{and_l, and_r}
use Rattle.bytes_at.specs.Lists.{all, all_apart, unlike}
use Rattle.bytes_at.proofs.Tests.{both, all_at, all_yes, unlike_not, unlike_yes}
use Rattle.bytes_at.proofs.MoreTests.{all_append}
use Rattle.bytes_at.proofs.Apart.{one_place, apart_yes, front_apart, back_apart, both_apart, apart_joined}
use Rattle.standard_rules.specs.Map.{MapSet, no_map_set, data_of}

-- set k has an entry e, with this bucket number
abbrev Has : List MapSet → ℕ → ℕ → Type 0
Has ss k e = (k < length ss) × (e < length (get_or ss k no_map_set).buckets)

abbrev bucket : List MapSet → ℕ → ℕ → ℕ
bucket ss k e = get_or (get_or ss k no_map_set).buckets e 0

module _ (f : ℕ → Bool) where
  pub data_at : (ss : List MapSet) → T (all f (data_of ss)) → (k e : ℕ) → Has ss k e → T (f (bucket ss k e))
  unfolding data_of
  data_at [] t k e h = absurd (omega arith)
  data_at (s ∷ ss) t zero e h =
      all_at f s.buckets 0 (and_l (all f s.buckets) (all f (data_of ss)) (rw (all_append f s.buckets (data_of ss)) at t)) e h.1
  data_at (s ∷ ss) t (suc k) e h =
      data_at ss (and_r (all f s.buckets) (all f (data_of ss)) (rw (all_append f s.buckets (data_of ss)) at t)) k e (omega arith, h.1)

  pub data_yes : (ss : List MapSet) → ((k e : ℕ) → Has ss k e → T (f (bucket ss k e))) → T (all f (data_of ss))
  unfolding data_of all
  data_yes [] h = tt
  data_yes (s ∷ ss) h =
      rw (all_append f s.buckets (data_of ss))
      (both (all f s.buckets) (all f (data_of ss)) (all_yes f s.buckets 0 (λ e l. h 0 e (omega arith, l))) (data_yes ss (λ k e l. h (suc k) e (omega arith, l.1))))

module _ (nb : ℕ) where
  -- the bucket of a set's entry is no bucket of the sets after it
  elsewhere : (s : MapSet) (ss : List MapSet) → T (all_apart nb (s.buckets ++ data_of ss))
      → (l e f : ℕ) → e < length s.buckets → Has ss l f → get_or s.buckets e 0 ≡ bucket ss l f → ⊥
  elsewhere s ss t l e f h g q =
      unlike_not _ _
      (data_at (unlike (get_or s.buckets e 0)) ss (all_at (λ x. all (unlike x) (data_of ss)) s.buckets 0 (both_apart nb s.buckets (data_of ss) t) e h) l f g)
      q

  pub data_once : (ss : List MapSet) → T (all_apart nb (data_of ss)) → (k l e f : ℕ) → Has ss k e → Has ss l f → bucket ss k e ≡ bucket ss l f → (k ≡ l) × (e ≡ f)
  unfolding data_of
  data_once [] t k l e f h g q = absurd (omega arith)
  data_once (s ∷ ss) t zero zero e f h g q = (refl, one_place nb s.buckets (front_apart nb s.buckets (data_of ss) t) e f h.1 g.1 q)
  data_once (s ∷ ss) t zero (suc l) e f h g q = absurd (elsewhere s ss t l e f h.1 (omega arith, g.1) q)
  data_once (s ∷ ss) t (suc k) zero e f h g q = absurd (elsewhere s ss t k f e g.1 (omega arith, h.1) (sym q))
  data_once (s ∷ ss) t (suc k) (suc l) e f h g q =
      let r = data_once ss (back_apart nb s.buckets (data_of ss) t) k l e f (omega arith, h.1) (omega arith, g.1) q in
      (ap suc r.0, r.1)

  pub data_apart_yes : (ss : List MapSet) → ((k e : ℕ) → Has ss k e → bucket ss k e < nb)
      → ((k l e f : ℕ) → Has ss k e → Has ss l f → bucket ss k e ≡ bucket ss l f → (k ≡ l) × (e ≡ f)) → T (all_apart nb (data_of ss))
  unfolding data_of
  data_apart_yes [] h o = apart_yes nb [] (λ i l. absurd (omega arith)) (λ i j l g q. absurd (omega arith))
  data_apart_yes (s ∷ ss) h o =
      apart_joined nb s.buckets (data_of ss)
      (apart_yes nb s.buckets (λ e l. h 0 e (omega arith, l)) (λ e f l g q. (o 0 0 e f (omega arith, l) (omega arith, g) q).1))
      (all_yes (λ x. all (unlike x) (data_of ss)) s.buckets 0 (λ e l.
      data_yes (unlike (get_or s.buckets e 0)) ss (λ k f g. unlike_yes (get_or s.buckets e 0) (bucket ss k f) (λ q. omega (arith, o 0 (suc k) e f (omega arith, l) (omega arith, g.1) q)))))
      (data_apart_yes ss (λ k e l. h (suc k) e (omega arith, l.1)) (λ k l e f u v q.
      let r = o (suc k) (suc l) e f (omega arith, u.1) (omega arith, v.1) q in (omega arith, r.1)))
