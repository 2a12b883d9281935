-- How the code finds the column and the manager of a question: from the numbers of the table that it needs and the column at the
-- question's position with its binding, so that the table's lists need not be copied. The rule is `target_of`.
use Rattle.std.specs.Prelude.{ℕ, List}
use Rattle.bytes_at.specs.Steps.{◌>>=◌}
use Rattle.bytes_at.specs.declared.Refusal.{Refusal}
use Rattle.bytes_at.specs.Stages.{◌▷◌, or_no}
use Rattle.table_rules.specs.declared.Column.{Column}
use Rattle.table_rules.specs.declared.Binding.{Binding}
use Rattle.table_rules.specs.declared.Manager.{Manager}
use Rattle.lookup_rules.specs.declared.Request.{Request}
use Rattle.lookup_rules.specs.declared.Target.{Target}
use Rattle.lookup_rules.specs.Questions.{is_column, sequence_for, kind_with, is_placed, is_held, is_incremental}

unfoldable pub target_by : Refusal → ℕ → List Manager → ℕ → Column → Binding → Request → Target
target_by refused columns managers count c b r = do
  known ← is_column r columns
  r1 ← refused ▷ or_no known 8
  sequence ← sequence_for r b.sequence
  kind ← kind_with managers count sequence
  placed ← is_placed r c.datatype.number
  held ← is_held kind placed r.own
  r2 ← r1 ▷ or_no held 8
  incremental ← is_incremental kind
  record { refused = r2; position = r.position; sequence = sequence; incremental = incremental; column = c; binding = b }
