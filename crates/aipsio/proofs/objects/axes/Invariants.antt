-- `aipsio::objects::axes` meets its contract. The loop's invariant: the product is the definition's after as many turns.
use mathlib.Core.Path.{◌≡◌}
use Rattle.bytes_at.specs.Number.{bytes_of}
use Rattle.bytes_at.specs.Steps.{after}
use Rattle.aipsio_rules.specs.Object.{axis_into}
use Rattle.aipsio.proofs.objects.axes.Given as goal

abbrev pub invariant-loop : goal.invariant-loop
invariant-loop l = l.product ≡ after (λ p j. axis_into l.s (bytes_of l.width) p) l.initial.product l.counter
