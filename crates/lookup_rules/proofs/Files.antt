-- The check of a manager's file, by its kind. Its refusal, the bucket size and the set do not depend on the row that is asked for, but
-- where the row's own bucket alone is checked.
-- Assumes nothing.
use mathlib.Core.Path.{◌≡◌, refl, sym, ap, ◌∙◌}
use mathlib.Core.List.{List}
use mathlib.Core.Bool.{Bool, true, false, cond}
use Prim.Native.Nat.{ℕ}
use native.Mathlib.Decide.{ℕ_discrete}
use borrow.Author.Tests.{eq-eqb, ne_eqb}
use Rattle.bytes_at.specs.Steps.{◌>>=◌}
use Rattle.bytes_at.specs.declared.Refusal.{Refusal}
use Rattle.bytes_at.proofs.Stages.{then_left, Clear}
use Rattle.standard_rules.proofs.Exactly.{refusal_clear}
use Rattle.incremental_rules.proofs.Exactly.{refusal_clear as incremental-clear}
use Rattle.incremental_rules.proofs.Places.{own_clear, by_clear, by_parts}
use Rattle.table_rules.specs.declared.Description.{Description}
use Rattle.standard_rules.specs.Check.{refusal_with, checked_with, refusal_of, checked_as}
use Rattle.incremental_rules.specs.declared.Found.{Found}
use Rattle.incremental_rules.specs.Check.{told, checked_as as incremental_as}
use Rattle.incremental_rules.specs.OneBucket.{own_checked, refusal_by, checked_by}
use Rattle.lookup_rules.specs.declared.Target.{Target}
use Rattle.lookup_rules.specs.declared.FileChecked.{FileChecked}
use Rattle.lookup_rules.specs.Questions.{of_standard, of_incremental, file_of, plan_for}

check_passed : (d : Description) (sequence : ℕ) (f : List ℕ) (refused : Refusal) (k l : ℕ) → (checked_as d sequence f refused k l).refused ≡ refusal_of d sequence f refused l
unfolding checked_with
check_passed d sequence f refused k l = elim (ℕ_discrete (refusal_of d sequence f refused l).number 0) [
  | yes e ↦ rw (eq-eqb (refusal_of d sequence f refused l).number 0 e) (sym (refusal_clear d sequence f refused l e))
  | no n ↦ rw (ne_eqb (refusal_of d sequence f refused l).number 0 n)
]

told_refused : (why : Refusal) (size : ℕ) (found : Found) → Clear why → (told why size found).refused ≡ why
unfolding told
told_refused why size found c = elim (ℕ_discrete why.number 0) [
  | yes e ↦ rw (eq-eqb why.number 0 e) (sym (c e))
  | no n ↦ rw (ne_eqb why.number 0 n)
]

told_size : (why : Refusal) (size : ℕ) (found found' : Found) → (told why size found).size ≡ (told why size found').size
unfolding told
told_size why size found found' = elim (ℕ_discrete why.number 0) [
  | yes e ↦ rw (eq-eqb why.number 0 e)
  | no n ↦ rw (ne_eqb why.number 0 n)
]

module _ (d : Description) (sequence : ℕ) (f : List ℕ) (refused : Refusal) (position : ℕ) where
  incremental_passed : (own : Bool) (row : ℕ) → (checked_by own d sequence f refused position row).refused ≡ refusal_by own d sequence f refused row
  unfolding checked_by own_checked incremental_as refusal_by
  incremental_passed true row = told_refused _ _ _ (own_clear d sequence f refused row)
  incremental_passed false row = told_refused _ _ _ (incremental-clear d sequence f refused)

  incremental_size : (row row' : ℕ) → (checked_by false d sequence f refused position row).size ≡ (checked_by false d sequence f refused position row').size
  unfolding checked_by incremental_as
  incremental_size row row' = told_size _ _ _ _

  -- the check of all buckets is refused alike whatever row is asked for
  whole_refused : (row row' : ℕ) → (checked_by false d sequence f refused position row).refused ≡ (checked_by false d sequence f refused position row').refused
  unfolding refusal_by
  whole_refused row row' = incremental_passed false row ∙ sym (incremental_passed false row')

-- ---- the same in one of two ways
cond_refused : (b : Bool) (x x' y : FileChecked) → x.refused ≡ x'.refused → (cond b x y).refused ≡ (cond b x' y).refused
cond_refused true x x' y e = e
cond_refused false x x' y e = refl

cond_size : (b : Bool) (x x' y : FileChecked) → x.size ≡ x'.size → (cond b x y).size ≡ (cond b x' y).size
cond_size true x x' y e = e
cond_size false x x' y e = refl

cond_set : (b : Bool) (x x' y : FileChecked) → x.set ≡ x'.set → (cond b x y).set ≡ (cond b x' y).set
cond_set true x x' y e = e
cond_set false x x' y e = refl

module _ (d : Description) (g : Target) (f : List ℕ) (l : ℕ) where
  pub file_standard : g.incremental ≡ false → (own : Bool) (row : ℕ) → file_of d g f own row l ≡ of_standard (checked_as d g.sequence f g.refused g.binding.set l)
  unfolding file_of
  file_standard e own row = rw e

  pub file_incremental : g.incremental ≡ true → (own : Bool) (row : ℕ)
      → file_of d g f own row l ≡ of_incremental (checked_by own d g.sequence f g.refused g.position row)
  unfolding file_of
  file_incremental e own row = rw e

  pub standard_refused : g.incremental ≡ false → (own : Bool) (row : ℕ) → (file_of d g f own row l).refused ≡ refusal_of d g.sequence f g.refused l
  standard_refused e own row = ap (λ (m : FileChecked). m.refused) (file_standard e own row) ∙ check_passed d g.sequence f g.refused g.binding.set l

  pub incremental_refused : g.incremental ≡ true → (own : Bool) (row : ℕ) → (file_of d g f own row l).refused ≡ refusal_by own d g.sequence f g.refused row
  incremental_refused e own row =
      ap (λ (m : FileChecked). m.refused) (file_incremental e own row) ∙ incremental_passed d g.sequence f g.refused g.position own row

  -- where nothing is refused, no byte is told
  either_clear : (b : Bool) → g.incremental ≡ b → (own : Bool) (row : ℕ) → Clear (file_of d g f own row l).refused
  either_clear true e own row = rw (incremental_refused e own row) (by_clear d g.sequence f g.refused row own)
  either_clear false e own row = rw (standard_refused e own row) (refusal_clear d g.sequence f g.refused l)

  pub checked_clear : (own : Bool) (row : ℕ) → Clear (file_of d g f own row l).refused
  checked_clear own row = either_clear g.incremental refl own row

  -- whatever row is asked for, where all buckets are checked
  pub row_refused : (row row' : ℕ) → (file_of d g f false row l).refused ≡ (file_of d g f false row' l).refused
  unfolding file_of
  row_refused row row' = cond_refused g.incremental _ _ _ (whole_refused d g.sequence f g.refused g.position row row')

  row_size : (row row' : ℕ) → (file_of d g f false row l).size ≡ (file_of d g f false row' l).size
  unfolding file_of
  row_size row row' = cond_size g.incremental _ _ _ (incremental_size d g.sequence f g.refused g.position row row')

  row_set : (row row' : ℕ) → (file_of d g f false row l).set ≡ (file_of d g f false row' l).set
  unfolding file_of
  row_set row row' = cond_set g.incremental _ _ _ refl

  pub row_plan : (row row' : ℕ) → plan_for g (file_of d g f false row l) ≡ plan_for g (file_of d g f false row' l)
  unfolding plan_for ◌>>=◌
  row_plan row row' = rw (row_size row row', row_set row row')

  -- a file that is not refused has a manager and a column
  standard_target : g.incremental ≡ false → (own : Bool) (row : ℕ) → (file_of d g f own row l).refused.number ≡ 0 → g.refused.number ≡ 0
  unfolding refusal_with
  standard_target e own row h = then_left _ _ (rw (standard_refused e own row) at h)

  either_target : (b : Bool) → g.incremental ≡ b → (own : Bool) (row : ℕ) → (file_of d g f own row l).refused.number ≡ 0 → g.refused.number ≡ 0
  either_target true e own row h = (by_parts d g.sequence f g.refused row own (rw (incremental_refused e own row) at h)).0
  either_target false e own row h = standard_target e own row h

  pub target_passed : (own : Bool) (row : ℕ) → (file_of d g f own row l).refused.number ≡ 0 → g.refused.number ≡ 0
  target_passed own row h = either_target g.incremental refl own row h
