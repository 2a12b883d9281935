-- The answer of a search at each of its ways out.
-- Assumes nothing.
use mathlib.Core.Path.{◌≡◌, refl}
use mathlib.Core.List.{List}
use mathlib.Core.Bool.{true, false}
use Prim.Native.Nat.{ℕ}
use borrow.Author.Tests.{eq-eqb, ne_eqb}
use Rattle.bytes_at.specs.declared.Refusal.{Refusal}
use Rattle.std.specs.Option.{ok_or}
use Rattle.std.specs.declared.result.Result.{Result}
use Rattle.std.specs.declared.result.Result.TheVariants.{Err}
use Rattle.bytes_at.specs.Stages.{or_at}
use Rattle.bytes_at.proofs.Stages.{stops, goes, no_is, yes_is}
use Rattle.bytes_at.proofs.Stepped.{via}
use Rattle.aipsio_rules.specs.Field.{refusal_in}
use Rattle.aipsio_rules.proofs.Kept.{Clean, Refused}
use Rattle.table_rules.specs.declared.Description.{Description}
use Rattle.table_rules.specs.Table.{described_as}
use Rattle.keyword_rules.specs.declared.Field.{Field}
use Rattle.keyword_rules.specs.declared.Scope.{Scope}
use Rattle.keyword_rules.specs.declared.Sought.{Sought}
use Rattle.keyword_rules.specs.declared.Walked.{Walked}
use Rattle.keyword_rules.specs.Keywords.{keywords_of, is_scope, walked_at, search_at, keyword_search}

-- of a keyword set, from the walk through it
module _ (s path : List ℕ) (sought : Sought) (start : ℕ) {w : Walked} (e : w ≡ walked_at s path sought start) where
  pub set_refused : {r : Refusal} → Refused w.values → r ≡ refusal_in w.values → Err r ≡ search_at s path sought start
  unfolding search_at
  set_refused n p = via _ e (rw (p, ne_eqb w.values.refused 0 n))

  pub set_clean : Clean w.values → ok_or w.found (record { number = 16; byte = 0 }) ≡ search_at s path sought start
  unfolding search_at
  set_clean c = via _ e (rw (eq-eqb w.values.refused 0 c))

-- of a table and a scope
module _ (s : List ℕ) (scope : Scope) (path : List ℕ) (sought : Sought) {d : Description} (e : d ≡ described_as s) where
  pub not_described : (d.refused.number ≡ 0 → ⊥) → Err d.refused ≡ keyword_search s scope path sought
  unfolding keyword_search
  not_described n = via _ e (via _ refl (rw (stops d.refused (or_at (is_scope d scope) 8 0) n, ne_eqb d.refused.number 0 n)))

  module _ (z : d.refused.number ≡ 0) where
    pub no_scope : is_scope d scope ≡ false → Err (record { number = 8; byte = 0 }) ≡ keyword_search s scope path sought
    unfolding keyword_search
    no_scope k = via _ e (via _ refl (rw (goes d.refused (or_at (is_scope d scope) 8 0) z, no_is (is_scope d scope) 8 0 k)))

    pub in_scope : {x : Result Field Refusal} → is_scope d scope ≡ true → x ≡ search_at s path sought (keywords_of s d scope) → x ≡ keyword_search s scope path sought
    unfolding keyword_search
    in_scope k p = via _ e (via _ refl (rw (goes d.refused (or_at (is_scope d scope) 8 0) z, yes_is (is_scope d scope) 8 0 k) p))
