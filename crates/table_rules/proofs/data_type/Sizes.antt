-- The bits of an element: a number that no case has, as the `_` arm of a `match` knows it; and the cases are the table's bits.
-- Assumes nothing.
use mathlib.Core.Path.{◌≡◌, sym, ◌∙◌}
use mathlib.Core.Bool.{false}
use mathlib.Core.List.{[], ◌∷◌}
use Prim.Native.Nat.{ℕ, ◌<◌}
use lib.Dec.{eqb, lit<}
use lib.ListN.{get_or}
use borrow.Author.Tests.{ne_eqb}
use Rattle.bytes_at.specs.Lists.{first_from}
use Rattle.table_rules.specs.DataType.{nth_row, type_place, element_bits, SizesAgree}
use Rattle.table_rules.proofs.data_type.Cases.{Each, each, one_or_none}
use Rattle.table_rules.proofs.data_type.Table.{no_place}

-- the numbers of the cases, in their order
abbrev sized : ℕ → ℕ
sized i = get_or (0 ∷ 2 ∷ 3 ∷ 4 ∷ 5 ∷ 6 ∷ 29 ∷ 7 ∷ 8 ∷ 9 ∷ 10 ∷ []) i 0

pub no_size : (n : ℕ) → Each (λ (i : ℕ). n ≡ sized i → ⊥) 11 → 0 ≡ element_bits n
unfolding element_bits
no_size n h =
    let no : (i : ℕ) → i < 11 → eqb n (sized i) ≡ false = λ i k. ne_eqb n (sized i) (each (λ (i : ℕ). n ≡ sized i → ⊥) 11 h i k) in
    rw (no 0 (lit< tt), no 1 (lit< tt), no 2 (lit< tt), no 3 (lit< tt), no 4 (lit< tt), no 5 (lit< tt), no 6 (lit< tt), no 7 (lit< tt), no 8 (lit< tt), no 9 (lit< tt), no 10 (lit< tt))

abbrev Agrees : ℕ → Type 0
Agrees n = element_bits n ≡ (nth_row (type_place n)).bits

rows_agree : (i : ℕ) → i < 12 → Agrees (nth_row i).number
unfolding element_bits type_place first_from
rows_agree = each (λ (i : ℕ). Agrees (nth_row i).number) 12 (search depth 14)

-- Int64 stands seventh among the cases and last in the table, which has String before it
pub sizes_agree : SizesAgree
sizes_agree n =
    one_or_none n (λ (i : ℕ). (nth_row i).number) 12
    (λ i k e. rw e (rows_agree i k))
    (λ h. sym (no_size n (((((h.0.0.0.0.0.0, h.1), h.0.0.0.0.0.1), h.0.0.0.0.1), h.0.0.0.1), h.0.0.1)) ∙ rw (no_place n h))
