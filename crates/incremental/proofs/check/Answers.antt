-- `incremental::check` meets its contract: a law for each way out.
use mathlib.Core.Path.{sym, ◌∙◌}
use Prim.Native.Nat.{◌≤◌}
use lib.ListN.{length}
use Rattle.std.proofs.Common.{rules}
use Rattle.incremental.proofs.Checking.{out_parts, own_found, all_found, out_bucket, accepted}
use Rattle.incremental.proofs.check.Goals as goal
use Rattle.incremental.proofs.check.Goals.{then-own, else-own}

pub returns-in-Err : goal.returns-in-Err
returns-in-Err c = c.refuse.ensures ∙ out_parts _ _ _ _ _ _ _ c.in-Err.ensures.refused

pub returns-in-Ok-found : goal.returns-in-Ok-found
returns-in-Ok-found c =
    let e = c.in-Ok.ensures.same in
    let g = c.gather_cells-cells.ensures in
    let few : c.args.d.now.column_count ≤ length c.args.d.now.columns = search rules in
    let room : c.gather_cells-cells.result.count ≤ length c.gather_cells-cells.result.bytes = search rules in
    elim c.if-own.branch [
      | then-own w ↦
          accepted _ _ _ _ _ _ _ c.in-Ok.ensures.read (own_found c.args.d.now _ _ c.args.refused _ _ _ g.value few room _ _ w.if-own.true)
          (rw (sym w.found-is ∙ c.in-Ok-found.is, e.0, e.1, e.2) at w.find_in_own-found.ensures)
      | else-own w ↦
          accepted _ _ _ _ _ _ _ c.in-Ok.ensures.read (all_found c.args.d.now _ _ c.args.refused _ _ _ g.value few room _ _ w.if-own.false)
          (rw (sym w.found-is ∙ c.in-Ok-found.is, e.0, e.1) at w.find_in_all-found.ensures)
    ]

pub returns-in-Err-found : goal.returns-in-Err-found
returns-in-Err-found c =
    let e = c.in-Ok.ensures.same in
    let g = c.gather_cells-cells.ensures in
    let few : c.args.d.now.column_count ≤ length c.args.d.now.columns = search rules in
    let room : c.gather_cells-cells.result.count ≤ length c.gather_cells-cells.result.bytes = search rules in
    c.refuse-in-Err-found.ensures ∙
    elim c.if-own.branch [
      | then-own w ↦
          out_bucket _ _ _ _ _ _ _ c.in-Ok.ensures.read (own_found c.args.d.now _ _ c.args.refused _ _ _ g.value few room _ _ w.if-own.true)
          (rw (sym w.found-is ∙ c.in-Err-found.is, e.0, e.1, e.2) at w.find_in_own-found.ensures)
      | else-own w ↦
          out_bucket _ _ _ _ _ _ _ c.in-Ok.ensures.read (all_found c.args.d.now _ _ c.args.refused _ _ _ g.value few room _ _ w.if-own.false)
          (rw (sym w.found-is ∙ c.in-Err-found.is, e.0, e.1) at w.find_in_all-found.ensures)
    ]
