-- Proofs of functions that call one function after another, against a definition in `do` form.
--     via      one line of the definition: the call's result is what the line names
--     free     what a callee with no `requires` asks
-- Assumes nothing.
use mathlib.Core.Path.{◌≡◌, ◌∙◌, ap}
use Rattle.bytes_at.specs.Steps.{◌>>=◌}

pub via : {A B : Type 0} (f : A → B) {r x : A} {y : B} → r ≡ x → y ≡ f r → y ≡ (x >>= f)
unfolding ◌>>=◌
via f e p = p ∙ ap f e

abbrev pub free : {A B : Type 0} → A → B → Unit {0}
free c κs = tt
