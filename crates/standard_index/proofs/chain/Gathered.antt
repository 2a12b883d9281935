-- A loop that walks a chain of index buckets and copies its text: `done`, of `at` bytes, stands at the front of the room, the chain
-- from bucket b on decides, and holds the rest of the text.
-- Assumes nothing.
use mathlib.Core.Path.{◌≡◌, refl, sym, ap, ◌∙◌}
use mathlib.Core.Bool.{Bool, true, false, false≢true}
use mathlib.Core.List.{List, [], ◌∷◌, ◌++◌, append-nil, append_assoc}
use Prim.Native.Nat.{ℕ, zero, suc, min, ◌+◌, ◌-◌, ◌*◌, ◌≤◌, ◌<◌}
use native.Mathlib.Nat.{zero-min, min-zero, suc-min-suc, zero-sub, sub-zero, suc-sub-suc}
use native.Mathlib.Decide.{dec_le}
use native.Mathlib.Omega.{arith}
use lib.ListN.{length, take, drop, length-take, length-drop, length-append}
use lib.Seq.{paste, take_at, drop-append-add, drop-drop, take-nil}
use lib.Dec.{leb, eqb}
use borrow.Author.Tests.{le-leb, lt-leb, eq-eqb, ne_eqb, eqb-true}
use Rattle.bytes_at.specs.Number.{uint_of}
use Rattle.standard_rules.specs.Header.{bucket_start}
use Rattle.buckets.specs.Area.{Area}
use Rattle.standard_rules.specs.Index.{next_of, no_bucket, chain_ok, chain_text, chain_holds}
use Rattle.bytes_at.proofs.Tests.{passed}
use Rattle.buckets.proofs.Links.{start_in_lem, chain_step, chain_range, chain_twice, text_step, body_long, text_long}
use Rattle.standard_rules.proofs.Counted.{chain_many}

-- ---- the first elements of a part, and of two lists in a row
take_min : (a b : ℕ) (l : List ℕ) → take a (take b l) ≡ take (min a b) l
take_min zero b l = rw zero-min
take_min (suc a) zero l = rw min-zero
take_min (suc a) (suc b) [] = rw suc-min-suc
take_min (suc a) (suc b) (x ∷ l) = rw suc-min-suc (ap (λ (t : List ℕ). x ∷ t) (take_min a b l))

take_append : (n : ℕ) (xs ys : List ℕ) → take n (xs ++ ys) ≡ take n xs ++ take (n - length xs) ys
take_append n [] ys = rw (take-nil n, sub-zero)
take_append zero (x ∷ xs) ys = rw zero-sub
take_append (suc n) (x ∷ xs) ys = rw suc-sub-suc (ap (λ (t : List ℕ). x ∷ t) (take_append n xs ys))

-- a copy at the end of what is done
paste_done : (done r₀ s : List ℕ) (at m : ℕ) → length done ≡ at → paste (done ++ drop at r₀) at s m ≡ (done ++ take m s) ++ drop (at + m) r₀
paste_done done r₀ s at m e = rw (take_at done (drop at r₀) at e, ← e, drop-append-add, drop-drop)

eqb_min : (n m : ℕ) → eqb (min n m) n ≡ leb n m
eqb_min n m =
    elim (dec_le n m) [
      | yes h ↦ rw (le-leb n m h) (eq-eqb (min n m) n (omega arith))
      | no h ↦ rw (lt-leb n m (omega arith)) (ne_eqb (min n m) n (λ e. omega arith))
    ]

drop_all : (l : List ℕ) → drop (length l) l ≡ []
drop_all [] = refl
drop_all (x ∷ l) = drop_all l

-- ---- the loop
pub record Gathered (f : List ℕ) (size nb count first : ℕ) (text₀ text : List ℕ) (k b at : ℕ) : Type 0 where
  pub done : List ℕ
  pub long : length done ≡ at
  pub within : at ≤ length text₀
  pub same : length text ≡ length text₀
  pub list : text ≡ done ++ drop at text₀
  pub ok : chain_ok f size nb count first ≡ chain_ok f size nb k b
  pub rest : take (length text₀) (chain_text f size count first) ≡ done ++ take (length text₀ - at) (chain_text f size k b)

-- what is promised of the answer r, with the text left as `text`
abbrev pub Chained : List ℕ → ℕ → ℕ → ℕ → ℕ → List ℕ → List ℕ → Bool → Type 0
Chained f size nb count first text₀ text r = (r ≡ chain_holds f size nb count first (length text₀)) × (r ≡ true → text ≡ take (length text₀) (chain_text f size count first))

-- where the chain is wrong nothing is promised of the text
module _ (f : List ℕ) (size nb count first n : ℕ) {X : Type 0} where
  no_chain : chain_ok f size nb count first ≡ false → (false ≡ chain_holds f size nb count first n) × (false ≡ true → X)
  unfolding chain_holds
  no_chain e = (rw e, λ q. absurd (false≢true q))

  pub out_many : Area f size nb → nb < count → (false ≡ chain_holds f size nb count first n) × (false ≡ true → X)
  out_many a h = no_chain (chain_many f size nb a.few count first h)

module _ {f : List ℕ} {size nb count first : ℕ} {text₀ text : List ℕ} {k b at : ℕ} (v : Gathered f size nb count first text₀ text k b at) where
  abbrev n : ℕ
  n = length text₀

  pub gathered_more : {p next m left : ℕ} {text' : List ℕ} → Area f size nb → 0 < k → left ≡ k - 1 → b < nb
      → p ≡ bucket_start size b → next ≡ uint_of true 4 f p → next ≡ uint_of true 4 f (p + 4) → m ≡ min (n - at) (size - 8)
      → text' ≡ paste text at (drop (p + 8) f) m → length text' ≡ length text
      → Gathered f size nb count first text₀ text' left next (at + m)
  gathered_more {p} {next} {m} {left} {text'} a hk hl hb ep en et em er el =
      let body : List ℕ = drop (bucket_start size b + 8) f in
      let tail : List ℕ = chain_text f size (k - 1) (next_of f size b) in
      let en' : next ≡ next_of f size b = rw (← ep) en in
      let here : length (take m body) ≡ m = simp (length-take, length-drop) (omega (arith, a.least, start_in_lem size nb b (length f) hb a.holds)) in
      let after : n - at - length (take (size - 8) body) ≡ n - (at + m) = rw (body_long f size nb b a hb) (omega arith) in
      let piece : take (n - at) (chain_text f size k b) ≡ take m body ++ take (n - (at + m)) tail =
      rw (text_step f size k b hk, take_append, take_min, ← em, after) in
      record {
        done = v.done ++ take m body;
        long = rw length-append (rw (v.long, here));
        within = omega (arith, v.within);
        same = el ∙ v.same;
        list = er ∙ rw (v.list, ep, paste_done v.done text₀ body at m v.long);
        ok = v.ok ∙ chain_step f size nb k b hk hb (sym en' ∙ rw (← ep) et) ∙ rw (← en', hl);
        rest = v.rest ∙ rw (piece, en', append_assoc, hl);
      }

  -- the ways out
  pub out_range : 0 < k → nb ≤ b → Chained f size nb count first text₀ text false
  out_range hk hb = no_chain f size nb count first n (v.ok ∙ chain_range f size nb k b hk hb)

  pub out_twice : {p next other : ℕ} → 0 < k → b < nb → p ≡ bucket_start size b → next ≡ uint_of true 4 f p → other ≡ uint_of true 4 f (p + 4) → (next ≡ other → ⊥)
      → Chained f size nb count first text₀ text false
  out_twice hk hb ep en eo ne = no_chain f size nb count first n (v.ok ∙ chain_twice f size nb k b hk hb (λ e. ne (rw (en, eo, ep) e)))

  module _ (hk : k ≤ 0) where
    none : k ≡ 0
    none = omega arith

    pub out_end : (b ≡ no_bucket → ⊥) → Chained f size nb count first text₀ text (eqb b no_bucket)
    unfolding chain_ok
    out_end ne = rw (ne_eqb _ _ ne) (no_chain f size nb count first n (v.ok ∙ rw (none, ne_eqb _ _ ne)))

    ended : b ≡ no_bucket → chain_ok f size nb count first ≡ true
    unfolding chain_ok
    ended e = v.ok ∙ rw (none, eq-eqb _ _ e)

    all : take n (chain_text f size count first) ≡ v.done
    unfolding chain_text
    all = v.rest ∙ rw (none, take-nil (n - at), append-nil)

    pub out_right : Area f size nb → b ≡ no_bucket → Chained f size nb count first text₀ text (eqb at (length text))
    unfolding chain_holds
    out_right a e =
        let long : length (chain_text f size count first) ≡ count * (size - 8) = text_long f size nb a count first (passed (ended e)) in
        let counted : min n (count * (size - 8)) ≡ at = rw (← long) (sym (length-take n (chain_text f size count first)) ∙ ap length all ∙ v.long) in (
          rw (ended e, v.same, ← counted) (eqb_min n (count * (size - 8))),
          λ q. let h : at ≡ n = eqb-true at (length text) q ∙ v.same in v.list ∙ rw (all, h) (rw (drop_all text₀, append-nil)),
        )
