-- What the search for a cell answers.
use Rattle.std.specs.Prelude.{◌≡◌, MatchResult}
use Rattle.std.specs.declared.result.Result.{Result}
use Rattle.bytes_at.specs.declared.Refusal.{Refusal}
use Rattle.incremental_rules.specs.declared.Found.{Found}
use Rattle.incremental.specs.declared.cells.Place.{Place}
use Rattle.incremental.specs.Check.{found_at, Refuses}

-- the place that is found, or why a bucket refuses
abbrev pub Tells : Found → Result Place Refusal → Type 0
Tells found r = MatchResult r (λ p. found ≡ found_at p.start p.offset) (λ why. Refuses why found)
