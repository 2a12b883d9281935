-- `standard::extents::is_apart` meets its contract: the closure is the test.
use mathlib.Core.Path.{◌≡◌, refl, ap, ◌∙◌}
use mathlib.Core.Bool.{Bool, ◌&&◌}
use mathlib.Core.List.{List, [], ◌∷◌}
use Rattle.std.proofs.Common.{rules}
use Rattle.std.proofs.lemmas.Iterator.{YieldsList-from_slice}
use Rattle.std.proofs.lemmas.Iterator.Search.{all_from_yields_List}
use Rattle.std.specs.List.{list_all}
use Rattle.bytes_at.specs.Lists.{all}
use Rattle.standard_rules.specs.Map.{clear}
use Rattle.standard.proofs.extents.is_apart.Goals as goal

all_is : {A : Type 0} (f : A → Bool) (xs : List A) → list_all f xs ≡ all f xs
unfolding all
all_is f [] = refl
all_is f (x ∷ xs) = ap (λ b. f x && b) (all_is f xs)

pub returns : goal.returns
returns c =
    all_from_yields_List (clear c.args.x) _ _ _ c.all.ensures.ran (YieldsList-from_slice c.args.others.now cc) (λ y b q k. search rules)
    ∙ all_is (clear c.args.x) c.args.others.now
