-- Descriptions and walks by the level: nothing more at level 0, one level down else; and the loop over the fields of a record.
-- Assumes nothing.
use mathlib.Core.Path.{◌≡◌, refl}
use mathlib.Core.List.{List}
use Prim.Native.Nat.{ℕ, zero, suc, ◌-◌, ◌≤◌}
use native.Mathlib.Numerals.{sub-one}
use borrow.Author.Tests.{eq-eqb, ne_eqb}
use Rattle.bytes_at.specs.Steps.{after}
use Rattle.bytes_at.proofs.Loops.{after_stop}
use Rattle.aipsio_rules.specs.declared.Cursor.{Cursor}
use Rattle.aipsio_rules.proofs.Kept.{Clean, Refused, Keeps, keeps_same}
use Rattle.aipsio_rules.proofs.ObjectKept.{closed_keeps}
use Rattle.keyword_rules.specs.declared.Held.{Held}
use Rattle.std.specs.declared.option.Option.{Option}
use Rattle.std.specs.declared.option.Option.TheVariants.{Some, None}
use Rattle.keyword_rules.specs.declared.Field.{Field}
use Rattle.keyword_rules.specs.declared.Sought.{Sought}
use Rattle.keyword_rules.specs.declared.Standing.{Standing}
use Rattle.keyword_rules.specs.declared.Walked.{Walked}
use Rattle.keyword_rules.specs.RecordDesc.{specific_at, desc_with, type_desc_at}
use Rattle.keyword_rules.specs.TableRecord.{left_out, left_at, field_once, field_into, walk_with, walk_at}

-- A description.
module _ (s : List ℕ) (c : Cursor) (number : ℕ) where
  pub desc_plain : (deeper : ℕ) → (number ≡ 25 → ⊥) → type_desc_at deeper s c number ≡ specific_at s c number
  unfolding type_desc_at
  desc_plain zero h = refl
  desc_plain (suc d) h = rw (ne_eqb number 25 h)

  pub desc_none : (deeper : ℕ) → number ≡ 25 → deeper ≡ 0 → type_desc_at deeper s c number ≡ c
  unfolding type_desc_at specific_at
  desc_none deeper h e = rw (e, h)

  pub desc_level : (deeper : ℕ) → number ≡ 25 → (deeper ≡ 0 → ⊥) → type_desc_at deeper s c number ≡ desc_with (type_desc_at (deeper - 1) s) s (deeper - 1) c
  unfolding type_desc_at
  desc_level zero h n = absurd (n refl)
  desc_level (suc d) h n = rw (sub-one, eq-eqb number 25 h)

-- A walk.
out_keeps : (v : Cursor) (o : Option Cursor) → Keeps v (left_out v o)
out_keeps v None = keeps_same v
out_keeps v (Some outer) = closed_keeps v outer

pub left_keeps : (v : Cursor) (b : Held) → Keeps v (left_at v b)
unfolding left_at
left_keeps v b = out_keeps v b.outer

-- one field
module _ (held : Held → Cursor → Option Field → Walked) (s path : List ℕ) (sought : Sought) (deeper version : ℕ) where
  pub into_on : (w : Standing) (i : ℕ) {y : Standing} → Clean w.values → y ≡ field_once held s path sought deeper version w i
      → y ≡ field_into held s path sought deeper version w i
  unfolding field_into
  into_on w i h e = rw (eq-eqb w.values.refused 0 h) e

  into_kept : (w : Standing) (i : ℕ) → Refused w.values → field_into held s path sought deeper version w i ≡ w
  unfolding field_into
  into_kept w i h = rw (ne_eqb w.values.refused 0 h)

  -- the loop is left at the first refusal
  pub into_stop : (x : Standing) (i n : ℕ) {w : Standing} → w ≡ after (field_into held s path sought deeper version) x i → i ≤ n → Refused w.values
      → w ≡ after (field_into held s path sought deeper version) x n
  into_stop x i n {w} p h r = after_stop _ x i n p h (λ j. into_kept w j r)

-- one level
module _ (s path : List ℕ) (sought : Sought) (b : Held) (p : Cursor) (found : Option Field) where
  pub walk_none : (deeper : ℕ) → deeper ≡ 0 → walk_at deeper s path sought b p found ≡ record { values = b.values; found = found }
  unfolding walk_at
  walk_none deeper e = rw e

  pub walk_level : (deeper : ℕ) → (deeper ≡ 0 → ⊥)
      → walk_at deeper s path sought b p found ≡ walk_with (walk_at (deeper - 1) s path sought) s path sought (deeper - 1) b p found
  unfolding walk_at
  walk_level zero n = absurd (n refl)
  walk_level (suc d) n = rw sub-one
