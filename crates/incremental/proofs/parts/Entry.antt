-- The search for a row's entry, by halving: what a turn leaves.
-- Assumes nothing.
use mathlib.Core.Path.{◌≡◌, sym}
use mathlib.Core.Bool.{Bool}
use mathlib.Core.List.{List}
use Prim.Native.Nat.{ℕ, ◌+◌, ◌≤◌, ◌<◌, zero-le}
use native.Mathlib.Omega.{arith}
use Rattle.incremental_rules.specs.declared.Header.{Header}
use Rattle.incremental_rules.specs.declared.Index.{Index}
use Rattle.incremental_rules.specs.Index.{first_row, IndexAccepted}
use Rattle.incremental_rules.specs.Place.{entry_of}
use Rattle.incremental_rules.proofs.Rows.{some_entry, entry_is}

-- the entry is one of those from first on, before past
pub record Halving (big : Bool) (f : List ℕ) (x : Index) (row first past : ℕ) : Type 0 where
  pub within : first < past
  pub most : past ≤ x.count
  pub low : first_row big f x first ≤ row
  pub high : past < x.count → row < first_row big f x past

module _ (rows : ℕ) (big : Bool) (f : List ℕ) (h : Header) (x : Index) (a : IndexAccepted rows big f h x) (row : ℕ) (k : row < rows) where
  pub halving_start : Halving big f x row 0 x.count
  halving_start = record {
    within = some_entry rows big f h x a row k;
    most = omega arith;
    low = rw a.from_zero zero-le;
    high = λ l. absurd (omega arith);
  }

  pub halving_end : {first past : ℕ} → Halving big f x row first past → past ≤ first + 1 → record { value : first ≡ entry_of big f x row; known : first < x.count }
  halving_end {first} {past} v l = record {
    value = sym (entry_is rows big f h x a row k first (omega (arith, v.within, v.most)) v.low
        (λ n. let q : past ≡ first + 1 = omega (arith, v.within) in rw (← q) (v.high (omega (arith, q)))));
    known = omega (arith, v.within, v.most);
  }

module _ {big : Bool} {f : List ℕ} {x : Index} {row first past : ℕ} (v : Halving big f x row first past) {middle from : ℕ} (e : from ≡ first_row big f x middle) where
  pub halving_down : first < middle → middle < past → row < from → Halving big f x row first middle
  halving_down l m n = record { within = l; most = omega (arith, v.most); low = v.low; high = λ g. rw (← e) n }

  pub halving_up : middle < past → from ≤ row → Halving big f x row middle past
  halving_up m n = record { within = m; most = v.most; low = rw (← e) n; high = v.high }
