-- The sets of a map, which the index text holds in their order. Assumes nothing.
use mathlib.Core.Path.{◌≡◌, refl, ap}
use mathlib.Core.Bool.{Bool}
use mathlib.Core.List.{List, ◌∷◌}
use Prim.Native.Nat.{ℕ, zero, suc, ◌+◌, ◌<◌}
use native.Mathlib.Omega.{arith}
use lib.ListN.{length, get_or}
use Rattle.standard_rules.specs.Map.{MapSet, map_set, sets_from}
use Rattle.standard_rules.specs.declared.Set.{Set}
use Rattle.standard_rules.specs.Index.{no_set}
use Rattle.standard.proofs.columns.Listed.{listed, listed_length, listed_at}

module _ (big : Bool) (text : List ℕ) (sets : List Set) where
  abbrev set_in : ℕ → MapSet
  set_in k = map_set big text (get_or sets k no_set)

  sets_listed : (n i : ℕ) → sets_from big text sets n i ≡ listed set_in n i
  unfolding sets_from listed
  sets_listed zero i = refl
  sets_listed (suc n) i = ap (λ l. set_in i ∷ l) (sets_listed n (suc i))

  pub sets_length : (n i : ℕ) → length (sets_from big text sets n i) ≡ n
  sets_length n i = rw (sets_listed n i) (listed_length set_in n i)

  pub sets_at_lem : (d : MapSet) (n k : ℕ) → k < n → get_or (sets_from big text sets n 0) k d ≡ map_set big text (get_or sets k no_set)
  sets_at_lem d n k h = let e : k + 0 ≡ k = omega arith in rw (sets_listed n 0, listed_at set_in d n 0 k h, e)
