-- `table_rules::data_type::DataType::name` meets its contract: the bare name, and spaces behind it.
use mathlib.Core.Path.{refl, ◌∙◌}
use native.Mathlib.Nat.{zero-add}
use lib.ListN.{length, replicate}
use Rattle.std.proofs.lemmas.List.Edits.{paste_all}
use Rattle.table_rules.proofs.data_type.Names.{filled_is}
use Rattle.table_rules.proofs.data_type.DataType.name.Goals as goal

pub returns : goal.returns
returns c =
    let bare = c.bare_name-bare.result.now in
    c.copy.ensures ∙ paste_all (replicate 8 32) 0 bare (length bare) refl ∙ rw zero-add (filled_is {a = bare} refl c.bare_name-bare.ensures.value c.bare_name-bare.ensures.bounded)
