-- The room: the index text and then zeros.
-- Assumes nothing.
use mathlib.Core.Path.{◌≡◌, sym, ◌∙◌}
use mathlib.Core.Bool.{Bool, true, ◌&&◌}
use mathlib.Core.List.{List, ◌++◌}
use Prim.Native.Nat.{ℕ, zero, suc, ◌+◌, ◌-◌, ◌*◌, ◌≤◌, ◌<◌}
use native.Mathlib.Nat.{zero-sub, sub-zero, suc-sub-suc}
use native.Mathlib.Decide.{ℕ_discrete}
use native.Mathlib.Omega.{arith}
use lib.ListN.{length, take, drop, replicate, length-drop}
use lib.Seq.{take_at, length-take-le}
use lib.Dec.{T, leb, ltb, eqb, leb→le, ltb→lt}
use store.Enc.{and_l, and_r}
use borrow.Author.Tests.{eq-eqb, ne_eqb}
use Rattle.standard_rules.specs.Header.{bucket_start}
use Rattle.buckets.specs.Area.{Area}
use Rattle.standard_rules.specs.Index.{chain_ok, chain_text, chain_holds, offset_ok, offset_text, index_ok, index_text}
use Rattle.standard_rules.specs.Check.{padded}
use Rattle.bytes_at.proofs.Tests.{passed}
use Rattle.buckets.proofs.Links.{start_in_lem, text_long}

-- ---- zeros after the text
drop_zeros : (m l : ℕ) → drop {A = ℕ} m (replicate l 0) ≡ replicate (l - m) 0
drop_zeros zero l = rw sub-zero
drop_zeros (suc m) zero = rw zero-sub
drop_zeros (suc m) (suc l) = rw suc-sub-suc (drop_zeros m l)

chain_length : (f : List ℕ) (size nb k b n : ℕ) → Area f size nb → T (chain_holds f size nb k b n) → length (take n (chain_text f size k b)) ≡ n
unfolding chain_holds
chain_length f size nb k b n a t =
    let ok = chain_ok f size nb k b in
    let room = leb n (k * (size - 8)) in
    length-take-le n (chain_text f size k b)
    (rw (text_long f size nb a k b (and_l ok room t)) (leb→le n (k * (size - 8)) (and_r ok room t)))

offset_length : (f : List ℕ) (size nb k b offset n : ℕ) → Area f size nb → T (offset_ok size nb k b offset n) → length (offset_text f size b offset n) ≡ n
unfolding offset_ok
offset_length f size nb k b offset n a t =
    let one = eqb k 1 in
    let there = ltb b nb in
    let fits = leb (offset + n) size in
    let h : b < nb = ltb→lt b nb (and_r one there (and_l (one && there) fits t)) in
    let l : offset + n ≤ size = leb→le (offset + n) size (and_r (one && there) fits t) in
    length-take-le n (drop (bucket_start size b + offset) f)
    (simp length-drop (omega (arith, start_in_lem size nb b (length f) h a.holds)))

module _ (f : List ℕ) (size nb k b offset n : ℕ) (a : Area f size nb) where
  -- an index text that is right has the length asked for
  pub index_long : T (index_ok f size nb k b offset n) → length (index_text f size k b offset n) ≡ n
  unfolding index_ok index_text
  index_long = elim (ℕ_discrete offset 0) [
    | yes e ↦ rw (eq-eqb offset 0 e) (λ t. chain_length f size nb k b n a t)
    | no ne ↦ rw (ne_eqb offset 0 ne) (λ t. offset_length f size nb k b offset n a t)
  ]

  -- what the two ways of gathering into the front of zeros leave: the text y, and what follows it
  module _ (l : ℕ) {y z : List ℕ} {r : Bool} (e : z ≡ replicate l 0) where
    pub index_chain : {m : ℕ} → m ≡ n → offset ≡ 0 → r ≡ chain_holds f size nb k b m → (r ≡ true → y ≡ take m (chain_text f size k b))
        → (r ≡ index_ok f size nb k b offset n) × (r ≡ true → y ++ drop n z ≡ padded l (index_text f size k b offset n))
    unfolding index_ok index_text padded
    index_chain long h p q =
        let holds : r ≡ chain_holds f size nb k b n = rw long at p in
        let text : r ≡ true → y ≡ take n (chain_text f size k b) = rw long at q in
        rw (eq-eqb offset 0 h)
        (holds, λ t. rw (text t, chain_length f size nb k b n a (passed (sym holds ∙ t)), e, drop_zeros))

    pub index_bucket : {m : ℕ} → m ≡ n → (offset ≡ 0 → ⊥) → r ≡ offset_ok size nb k b offset m → (r ≡ true → y ≡ offset_text f size b offset m)
        → (r ≡ index_ok f size nb k b offset n) × (r ≡ true → y ++ drop n z ≡ padded l (index_text f size k b offset n))
    unfolding index_ok index_text padded
    index_bucket long h p q =
        let holds : r ≡ offset_ok size nb k b offset n = rw long at p in
        let text : r ≡ true → y ≡ offset_text f size b offset n = rw long at q in
        rw (ne_eqb offset 0 h)
        (holds, λ t. rw (text t, offset_length f size nb k b offset n a (passed (sym holds ∙ t)), e, drop_zeros))

-- ---- the text at the front of a room
module _ (l : ℕ) (t : List ℕ) where
  pub padded_text : (n : ℕ) → length t ≡ n → take n (padded l t) ≡ t
  unfolding padded
  padded_text n e = take_at t (replicate (l - length t) 0) n e
