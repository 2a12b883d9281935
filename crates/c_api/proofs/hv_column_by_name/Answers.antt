-- `c_api::hv_column_by_name` meets its contract: its calls compose as the definition says.
use mathlib.Core.Path.{ap, ◌∙◌}
use Rattle.bytes_at.specs.declared.Refusal.{Refusal}
use Rattle.c_api.proofs.hv_column_by_name.Goals as goal

pub returns : goal.returns
returns c =
    let found = c.column_by_name-p.ensures in
    let why = c.position_refusal-why.ensures in
    let v = c.position_number-position.ensures in
    let told = c.tell.ensures in (
      rw (← found) (told.0 ∙ ap (λ (x : Refusal). x.number) why),
      rw (← found, ← why, ← v) told.1,
    )
