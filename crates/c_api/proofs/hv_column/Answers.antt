-- `c_api::hv_column` meets its contract: its calls compose as the definition says.
use Rattle.c_api.proofs.hv_column.Goals as goal

pub returns : goal.returns
returns c =
    let d = c.describe-d.ensures.value in
    let why = c.refusal-why.ensures in
    let columns = c.pick-c.ensures in
    let bindings = c.pick-b.ensures in
    let told = c.tell.ensures in (
      rw (told.0, why, d),
      rw (told.1, c.of_column-values.ensures, columns, bindings, why, c.no_column-no_column.ensures, c.no_binding-no_binding.ensures, d),
    )
