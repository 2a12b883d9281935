-- The first n columns and the first m managers tell the same as lists that go on behind them. Assumes nothing.
use mathlib.Core.Path.{◌≡◌, refl, ap, ◌∙◌}
use mathlib.Core.List.{List}
use Prim.Native.Nat.{ℕ, zero, suc, ◌≤◌, ◌<◌}
use native.Mathlib.Omega.{arith}
use lib.Dec.{eqb}
use lib.ListN.{length, take}
use lib.Seq.{length-take-le}
use Rattle.std.specs.Prelude.{Option}
use Rattle.std.proofs.lemmas.List.{get_or-take}
use Rattle.bytes_at.specs.Steps.{after, ◌>>=◌}
use Rattle.aipsio_rules.specs.declared.Cursor.{Cursor}
use Rattle.table_rules.specs.declared.Column.{Column}
use Rattle.table_rules.specs.declared.Manager.{Manager}
use Rattle.table_rules.specs.declared.Owner.{Owner}
use Rattle.table_rules.specs.declared.Info.{Info}
use Rattle.table_rules.specs.ColumnDesc.{no_column}
use Rattle.table_rules.specs.ColumnSet.{no_manager, no_owner, first_number, sequence_at, owner_into, owners_at, info_into, infos_at, binding_at, bindings_at}
use Rattle.table_rules.proofs.Searches.{first_front}

-- loops whose turns agree
after_agree : {A : Type 0} (f g : A → ℕ → A) (x : A) (n : ℕ) → ((a : A) (i : ℕ) → i < n → f a i ≡ g a i) → after f x n ≡ after g x n
unfolding after
after_agree f g x zero h = refl
after_agree f g x (suc n) h = h _ n (omega arith) ∙ ap (λ a. g a n) (after_agree f g x n (λ a i l. h a i (omega arith)))

number_taken : (managers : List Manager) (m number : ℕ) → first_number (take m managers) m number ≡ first_number managers m number
unfolding first_number
number_taken managers m number = first_front (λ (x : Manager). eqb x.number number) no_manager managers m

pub number_front : (managers : List Manager) (m : ℕ) → m ≤ length managers → (number : ℕ)
    → first_number (take m managers) (length (take m managers)) number ≡ first_number managers m number
number_front managers m h number = rw (length-take-le m managers h) (number_taken managers m number)

module _ (s : List ℕ) (c : Cursor) where
  pub owners_front : (columns : List Column) (n : ℕ) (managers : List Manager) (m : ℕ) → n ≤ length columns → m ≤ length managers
      → owners_at s c (take n columns) (length (take n columns)) (take m managers) (length (take m managers)) ≡ owners_at s c columns n managers m
  unfolding owners_at owner_into ◌>>=◌
  owners_front columns n managers m h k =
      rw (length-take-le n columns h, length-take-le m managers k)
      (after_agree _ _ _ n (λ a i l. rw (get_or-take n columns i no_column l, number_taken managers m (sequence_at s a.next).value) refl))

  pub infos_front : (managers : List Manager) (counts : List ℕ) (m : ℕ) → m ≤ length managers
      → infos_at s c (take m managers) counts (length (take m managers)) ≡ infos_at s c managers counts m
  unfolding infos_at info_into ◌>>=◌
  infos_front managers counts m h =
      rw (length-take-le m managers h) (after_agree _ _ _ m (λ a j l. rw (get_or-take m managers j no_manager l) refl))

pub bindings_front : (s : List ℕ) (owners : List Owner) (infos : List (Option Info)) (n : ℕ) → n ≤ length owners
    → bindings_at s (take n owners) infos (length (take n owners)) ≡ bindings_at s owners infos n
unfolding bindings_at binding_at ◌>>=◌
bindings_front s owners infos n h =
    rw (length-take-le n owners h) (after_agree _ _ _ n (λ a i l. rw (get_or-take n owners i no_owner l) refl))
