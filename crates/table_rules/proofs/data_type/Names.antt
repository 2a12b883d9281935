-- Names of types, bare or filled with spaces to eight characters.
-- Assumes nothing.
use mathlib.Core.Path.{◌≡◌, refl, sym, ap, ◌∙◌}
use mathlib.Core.Bool.{Bool, true, false, ◌&&◌, ◌||◌, false≢true, and-eq-true_iff}
use mathlib.Core.List.{List, [], ◌∷◌, ◌++◌}
use mathlib.Core.Logic.{◌⊎◌, inl, inr}
use Prim.Native.Nat.{ℕ, ◌+◌, ◌-◌, ◌≤◌}
use native.Mathlib.Omega.{arith}
use lib.Dec.{eqb}
use lib.ListN.{length, take, drop, replicate}
use lib.Seq.{take-append-add}
use Rattle.std.proofs.lemmas.List.{take-replicate, drop-replicate}
use borrow.Author.Tests.{eqb-true}
use Rattle.bytes_at.specs.Bytes.{same_bytes}
use Rattle.table_rules.specs.DataType.{filled, is_name}

-- a text of one byte
alone : (b : Bool) → b ≡ b && true
alone true = refl
alone false = refl

-- a name of at most k bytes, filled to k of them
filled_to : (k x : ℕ) (name : List ℕ) → length name ≤ k → take k (name ++ replicate k x) ≡ name ++ drop (length name) (replicate k x)
filled_to k x name h =
    let d : ℕ = k - length name in
    let e : k ≡ length name + d = omega arith in
    let less : d ≤ k = omega arith in
    ap (λ (j : ℕ). take j (name ++ replicate k x)) e ∙ take-append-add name (replicate k x) d
    ∙ ap (λ (l : List ℕ). name ++ l) (take-replicate d k x less ∙ sym (drop-replicate (length name) k x))

-- the bare name with spaces behind it
pub filled_is : {a b name : List ℕ} → a ≡ b → b ≡ name → length b ≤ 8 → a ++ drop (length b) (replicate 8 32) ≡ filled name
filled_is p q h = rw (p, q) (sym (filled_to 8 32 _ (rw (← q) h)))

-- bytes that compare as the same are the same
same_is : (a b : List ℕ) → same_bytes a b ≡ true → a ≡ b
unfolding same_bytes
same_is [] [] h = refl
same_is [] (y ∷ b) h = absurd (false≢true h)
same_is (x ∷ a) [] h = absurd (false≢true h)
same_is (x ∷ a) (y ∷ b) h = let k = (and-eq-true_iff (eqb x y) (same_bytes a b)).0 h in rw (eqb-true x y k.0, same_is a b k.1)

either : (p q : Bool) → p || q ≡ true → (p ≡ true) ⊎ (q ≡ true)
either true q h = inl refl
either false q h = inr h

-- bytes that are a name are it, bare or filled
pub name_is : (s name : List ℕ) → is_name s name ≡ true → (s ≡ name) ⊎ (s ≡ filled name)
name_is s name h = elim (either (same_bytes s name) (same_bytes s (filled name)) h) [
  | inl k ↦ inl (same_is s name k)
  | inr k ↦ inr (same_is s (filled name) k)
]
