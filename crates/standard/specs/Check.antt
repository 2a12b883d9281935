-- How the code goes through the check of a StandardStMan file.
use Rattle.standard_rules.specs.Index.{no_set}
use Rattle.standard_rules.specs.declared.Checked.{Checked}
use Rattle.bytes_at.specs.declared.Refusal.{Refusal}

-- "A refusal carries its number and zeros", and beside them its byte.
unfoldable pub refused_file : Refusal → Checked
refused_file why = record { refused = why; size = 0; set = no_set }
