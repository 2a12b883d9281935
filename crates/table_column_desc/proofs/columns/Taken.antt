-- Whether an earlier column has the name, as the first of them that has it. Assumes nothing.
use mathlib.Core.Path.{◌≡◌, ap, ◌∙◌}
use mathlib.Core.List.{List}
use mathlib.Core.Bool.{Bool, not}
use Prim.Native.Nat.{ℕ, ◌≤◌}
use lib.Dec.{eqb}
use lib.ListN.{length, take}
use lib.Seq.{length-take-le}
use Rattle.std.specs.List.{list_any}
use Rattle.bytes_at.specs.Bytes.{same_bytes}
use Rattle.table_rules.specs.declared.Column.{Column}
use Rattle.table_rules.specs.ColumnDesc.{no_column, name_in, is_named, first_named}
use Rattle.table_rules.proofs.Searches.{any_first, first_front}

pub taken_is : (s : List ℕ) (columns : List Column) (i : ℕ) (name : List ℕ) {taken : Bool} → i ≤ length columns
    → taken ≡ list_any (λ (c : Column). same_bytes (name_in s c) name) (take i columns) → not taken ≡ eqb (first_named s columns i name) i
unfolding first_named is_named
taken_is s columns i name h e =
    let p : Column → Bool = λ c. same_bytes (name_in s c) name in
    ap not e ∙ any_first p no_column (take i columns) ∙ rw (length-take-le i columns h) (ap (λ (k : ℕ). eqb k i) (first_front p no_column columns i))
