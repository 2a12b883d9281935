-- `lookup_stages::planning::kind_with` meets its contract: the closure is the test.
use mathlib.Core.Path.{◌≡◌, ap, ◌∙◌}
use lib.ListN.{take}
use Rattle.std.proofs.Common.{rules}
use Rattle.std.proofs.lemmas.Iterator.{YieldsList-from_slice}
use Rattle.std.proofs.lemmas.Iterator.Search.{find_from_yields_List}
use Rattle.std.specs.List.{find}
use Rattle.std.specs.Option.{option_map}
use Rattle.lookup_stages.proofs.planning.Found.{kind_of, has, found_kind}
use Rattle.lookup_stages.proofs.planning.kind_with.Goals as goal

pub returns-in-Some : goal.returns-in-Some
returns-in-Some c =
    let r : option_map (λ x. x.now) c.find.result ≡ find (has c.args.managers.now c.args.sequence) (take c.args.count c.args.managers.now) =
    find_from_yields_List (has c.args.managers.now c.args.sequence) _ _ c.find.result c.find.ensures.ran (YieldsList-from_slice (take c.args.count c.args.managers.now) cc) (λ y b q k. search rules) in
    ap kind_of (rw c.in-Some.is at r) ∙ found_kind _ _ c.args.count (search rules)

pub returns-in-None : goal.returns-in-None
returns-in-None c =
    let r : option_map (λ x. x.now) c.find.result ≡ find (has c.args.managers.now c.args.sequence) (take c.args.count c.args.managers.now) =
    find_from_yields_List (has c.args.managers.now c.args.sequence) _ _ c.find.result c.find.ensures.ran (YieldsList-from_slice (take c.args.count c.args.managers.now) cc) (λ y b q k. search rules) in
    ap kind_of (rw c.in-None.is at r) ∙ found_kind _ _ c.args.count (search rules)
