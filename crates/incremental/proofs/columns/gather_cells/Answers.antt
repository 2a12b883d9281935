-- `incremental::columns::gather_cells` meets its contract. The loop's invariant: after k turns the columns are the definition's after k turns.
use mathlib.Core.Path.{refl, sym, ap, ◌∙◌}
use Prim.Native.Nat.{◌≤◌}
use lib.ListN.{length}
use native.Mathlib.Omega.{arith}
use Rattle.std.proofs.Common.{rules, inl, inr}
use Rattle.bytes_at.specs.Steps.{after}
use Rattle.bytes_at.proofs.Loops.{after_more, after_all}
use Rattle.table_rules.specs.declared.Binding.{Binding}
use Rattle.table_rules.specs.ColumnDesc.{no_column}
use Rattle.table_rules.specs.ColumnSet.{no_binding}
use Rattle.incremental_rules.specs.declared.Cells.{Cells}
use Rattle.incremental_rules.specs.Bucket.{cell_bytes, cells_in}
use Rattle.incremental.proofs.columns.Turns.{rest_turn, rest_end, cell_asked, cell_other, cell_off}
use Rattle.incremental.proofs.columns.gather_cells.Goals as goal
use Rattle.incremental.proofs.columns.gather_cells.Goals.{then-k-position, else-k-position}

pub loop-k-init : goal.loop-k-init
unfolding after
loop-k-init c = (search rules, search rules, search rules, search rules, search rules, search rules, search rules)

pub loop-k-preserved-then-b-sequence : goal.loop-k-preserved-then-b-sequence
loop-k-preserved-then-b-sequence c =
    let s = c.in-Some.ensures.steps in
    let v = c.loop-k.invariant in
    let tc = rest_turn c.args.columns.now v.3 no_column s.0.0 s.2 in
    let tb = rest_turn c.args.bindings.now v.4 no_binding s.0.1 s.2 in
    let h = ap (λ (x : Binding). x.sequence) tb.is ∙ c.if-b-sequence.true in
    let p = c.cell_bytes.ensures ∙ ap cell_bytes (sym tc.is) in
    elim c.if-k-position.branch [
      | then-k-position w ↦ (
        search rules,
        search rules,
        omega (arith, tc.here, s.2),
        tc.others,
        tb.others,
        omega (arith, v.5, s.2, ap (λ (x : Cells). x.count) w.cells-is),
        rw s.2 (after_more _ _ _ v.6 (cell_asked _ _ _ _ _ _ h p refl (sym s.1 ∙ w.if-k-position.true) w.cells-is)),
      )
      | else-k-position w ↦ (
        search rules,
        search rules,
        omega (arith, tc.here, s.2),
        tc.others,
        tb.others,
        omega (arith, v.5, s.2, ap (λ (x : Cells). x.count) w.cells-is),
        rw s.2 (after_more _ _ _ v.6 (cell_other _ _ _ _ _ _ h p refl (λ z. w.if-k-position.false (s.1 ∙ z)) w.cells-is)),
      )
    ]

pub loop-k-preserved : goal.loop-k-preserved
loop-k-preserved c =
    let s = c.in-Some.ensures.steps in
    let v = c.loop-k.invariant in
    let tc = rest_turn c.args.columns.now v.3 no_column s.0.0 s.2 in
    let tb = rest_turn c.args.bindings.now v.4 no_binding s.0.1 s.2 in (
      search rules,
      search rules,
      omega (arith, tc.here, s.2),
      tc.others,
      tb.others,
      omega (arith, v.5, s.2),
      rw s.2 (after_more _ _ _ v.6 (cell_off _ _ _ _ _ _ (λ z. c.if-b-sequence.false (sym (ap (λ (x : Binding). x.sequence) tb.is) ∙ z)) refl)),
    )

pub returns-clause-value : goal.returns-clause-value
unfolding cells_in
returns-clause-value c =
    let v = c.loop-k.invariant in
    let past : length c.args.columns.now ≤ c.loop-k.k-iterator.count = elim c.in-None.ensures.steps.0 [
      | inl w ↦ rest_end c.args.columns.now v.3 w.1.0
      | inr w ↦ omega (arith, rest_end c.args.bindings.now v.4 w.1.0, c.requires.1)
    ] in
    after_all _ _ _ _ v.6 v.2 past
