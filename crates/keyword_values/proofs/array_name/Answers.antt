-- `keyword_values::array_name` meets its contract: its calls compose as the definition says.
use Rattle.bytes_at.proofs.Stepped.{via}
use Rattle.keyword_rules.specs.Values.{array_name_at}
use Rattle.keyword_values.proofs.array_name.Goals as goal

pub returns : goal.returns
unfolding array_name_at
returns c =
    via _ c.any_string-t.ensures.value (
    via _ c.is_array_name-ok.ensures c.judge.ensures)
