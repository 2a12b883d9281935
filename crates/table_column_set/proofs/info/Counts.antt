-- The counts of columns: after i columns no manager has more than i.
-- Assumes nothing.
use mathlib.Core.Path.{◌≡◌}
use mathlib.Core.List.{List, [], ◌∷◌}
use Prim.Native.Nat.{ℕ, zero, suc, ◌+◌, ◌≤◌, zero-le}
use native.Mathlib.Omega.{arith}
use lib.ListN.{get_or, set, replicate}
use Rattle.bytes_at.specs.Steps.{after, ◌>>=◌}
use Rattle.table_rules.specs.declared.Column.{Column}
use Rattle.table_rules.specs.declared.Manager.{Manager}
use Rattle.table_rules.specs.declared.Owners.{Owners}
use Rattle.table_rules.specs.ColumnSet.{first_number, sequence_at, owner_into}

-- no number of a list is above a bound
abbrev pub AtMost : List ℕ → ℕ → Type 0
AtMost l high = (k : ℕ) → get_or l k 0 ≤ high

pub zeros_le : (n : ℕ) → AtMost (replicate n 0) 0
zeros_le zero k = zero-le
zeros_le (suc n) zero = zero-le
zeros_le (suc n) (suc k) = zeros_le n k

set_le : (l : List ℕ) (i v k high : ℕ) → get_or l k 0 ≤ high → v ≤ high → get_or (set l i v) k 0 ≤ high
set_le [] i v k high p q = p
set_le (x ∷ l) zero v zero high p q = q
set_le (x ∷ l) zero v (suc k) high p q = p
set_le (x ∷ l) (suc i) v zero high p q = p
set_le (x ∷ l) (suc i) v (suc k) high p q = set_le l i v k high p q

one_more_le : (l : List ℕ) (high : ℕ) → AtMost l high → (i : ℕ) → AtMost (set l i (get_or l i 0 + 1)) (suc high)
one_more_le l high h i k = set_le l i (get_or l i 0 + 1) k (suc high) (omega (arith, h k)) (omega (arith, h i))

module _ (s : List ℕ) (columns : List Column) (managers : List Manager) (m : ℕ) where
  turns_le : (x : Owners) → AtMost x.counts 0 → (i : ℕ) → AtMost (after (owner_into s columns managers m) x i).counts i
  unfolding after owner_into ◌>>=◌
  turns_le x h zero = h
  turns_le x h (suc i) =
      let y = after (owner_into s columns managers m) x i in
      one_more_le y.counts i (turns_le x h i) (first_number managers m (sequence_at s y.next).value)

  -- the state of a loop that starts with no columns
  pub counted : (x : Owners) (i : ℕ) {y : Owners} → y ≡ after (owner_into s columns managers m) x i → AtMost x.counts 0 → i ≤ 64 → AtMost y.counts 64
  counted x i e h l k = rw e (omega (arith, turns_le x h i k))
