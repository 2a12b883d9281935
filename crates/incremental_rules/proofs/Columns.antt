-- The columns that a file keeps, gathered one after the other: the one that is asked for is among them, and its part of an index stands
-- where the table's columns put it.
-- Assumes nothing.
use mathlib.Core.Path.{◌≡◌, refl, sym, ap, ◌∙◌}
use mathlib.Core.List.{List}
use mathlib.Core.Bool.{Bool, true, false, false≢true}
use Prim.Native.Nat.{ℕ, zero, suc, ◌+◌, ◌≤◌, ◌<◌}
use native.Mathlib.Decide.{ℕ_discrete}
use native.Mathlib.Nat.{not-suc-le-zero}
use native.Mathlib.Numerals.{add-one}
use native.Mathlib.Omega.{arith}
use lib.ListN.{length, get_or, length-set, length-replicate}
use lib.Seq.{get_or-set_same, get_or-set_other}
use lib.Dec.{eqb}
use borrow.Author.Tests.{eq-eqb, ne_eqb}
use Rattle.bytes_at.specs.Steps.{after}
use Rattle.table_rules.specs.declared.Column.{Column}
use Rattle.table_rules.specs.ColumnDesc.{no_column}
use Rattle.table_rules.specs.declared.Binding.{Binding}
use Rattle.table_rules.specs.ColumnSet.{no_binding}
use Rattle.incremental_rules.specs.Place.{part_at}
use Rattle.incremental_rules.specs.declared.Cells.{Cells}
use Rattle.incremental_rules.specs.Bucket.{cell_bytes, no_cells, cell_more, cell_into, cells_in, part_of}

module _ (cs : List Column) (bs : List Binding) (sequence position : ℕ) where
  -- whether a column is bound to the manager
  abbrev bound : ℕ → Bool
  bound k = eqb (get_or bs k no_binding).sequence sequence

  -- the column at the position is one of those gathered
  pub record Asked (cells : Cells) : Type 0 where
    pub known : cells.column < cells.count
    pub bytes : get_or cells.bytes cells.column 0 ≡ cell_bytes (get_or cs position no_column)
    pub part : (big : Bool) (f : List ℕ) (width at : ℕ) → part_of big f width at cells.column ≡ part_at big f width at bound position

  -- of k columns
  record Gathered (k : ℕ) (cells : Cells) : Type 0 where
    few : cells.count ≤ k
    long : length cells.bytes ≡ 64
    part : (big : Bool) (f : List ℕ) (width at : ℕ) → part_of big f width at cells.count ≡ part_at big f width at bound k
    asked : position < k → bound position ≡ true → Asked cells

  gathered_none : Gathered 0 no_cells
  unfolding part_of part_at
  gathered_none = record {
    few = omega arith;
    long = length-replicate {A = ℕ} 64 0;
    part = λ big f width at. refl;
    asked = λ h. absurd (not-suc-le-zero h);
  }

  module _ (k : ℕ) (cells : Cells) (v : Gathered k cells) (l : k < 64) where
    -- one column more that is bound
    part_on : bound k ≡ true → (big : Bool) (f : List ℕ) (width at : ℕ) → part_of big f width at (cells.count + 1) ≡ part_at big f width at bound (suc k)
    unfolding part_of part_at
    part_on e big f width at = rw (add-one, e, v.part big f width at)

    part_off : bound k ≡ false → (big : Bool) (f : List ℕ) (width at : ℕ) → part_of big f width at cells.count ≡ part_at big f width at bound (suc k)
    unfolding part_at
    part_off e big f width at = rw e (v.part big f width at)

    asked_on : position < suc k → bound position ≡ true → Asked (cell_more (get_or cs k no_column) k position cells)
    asked_on h b =
        elim (ℕ_discrete k position) [
          | yes q ↦ rw (eq-eqb k position q) (record {
            known = omega arith;
            bytes = get_or-set_same cells.bytes cells.count _ 0 (omega (arith, v.few, v.long)) ∙ ap (λ (i : ℕ). cell_bytes (get_or cs i no_column)) q;
            part = λ big f width at. v.part big f width at ∙ ap (part_at big f width at bound) q;
          })
          | no q ↦
              let a = v.asked (omega arith) b in
              rw (ne_eqb k position q) (record {
                known = omega (arith, a.known);
                bytes = get_or-set_other cells.bytes cells.count cells.column _ 0 (λ z. omega (arith, a.known)) ∙ a.bytes;
                part = a.part;
              })
        ]

    gathered_on : bound k ≡ true → Gathered (suc k) (cell_more (get_or cs k no_column) k position cells)
    gathered_on e = record {
      few = omega (arith, v.few);
      long = length-set cells.bytes cells.count _ ∙ v.long;
      part = part_on e;
      asked = asked_on;
    }

    gathered_off : bound k ≡ false → Gathered (suc k) cells
    gathered_off e = record {
      few = omega (arith, v.few);
      long = v.long;
      part = part_off e;
      asked = λ h b. v.asked (not_last h b) b;
    }
      where
        not_last : position < suc k → bound position ≡ true → position < k
        not_last h b = elim (ℕ_discrete k position) [ yes q ↦ absurd (false≢true (sym e ∙ ap bound q ∙ b)) | no q ↦ omega arith ]

    gathered_more : Gathered (suc k) (cell_into cs bs sequence position cells k)
    unfolding cell_into
    gathered_more =
        elim (ℕ_discrete (get_or bs k no_binding).sequence sequence) [
          | yes q ↦ let e = eq-eqb _ _ q in rw e (gathered_on e)
          | no q ↦ let e = ne_eqb _ _ q in rw e (gathered_off e)
        ]

  gathered : (n : ℕ) → n ≤ 64 → Gathered n (cells_in cs bs n sequence position)
  unfolding cells_in after
  gathered zero h = gathered_none
  gathered (suc n) h = gathered_more n _ (gathered n (omega arith)) h

  pub asked_is : (n : ℕ) → n ≤ 64 → position < n → (get_or bs position no_binding).sequence ≡ sequence → Asked (cells_in cs bs n sequence position)
  asked_is n h l e = (gathered n h).asked l (eq-eqb _ _ e)
