-- `lookup_stages::planning::target_in` meets its contract: the column and the binding are those of the position.
use mathlib.Core.Path.{◌∙◌}
use Rattle.bytes_at.specs.Steps.{◌>>=◌}
use Rattle.lookup_rules.specs.Questions.{target_of}
use Rattle.lookup_stages.specs.Stages.{target_by}
use Rattle.lookup_stages.proofs.planning.target_in.Goals as goal

pub returns : goal.returns
unfolding target_by target_of ◌>>=◌
returns c = c.find_target.ensures ∙ rw (c.element-c.ensures, c.element-b.ensures, c.no_column.ensures, c.no_binding.ensures)
