-- `standard::place::locate` meets its contract: the calls give the definition's numbers.
use Rattle.standard.proofs.place.Bits.{located}
use Rattle.standard.proofs.place.locate.Goals as goal

pub returns : goal.returns
returns c = (
  λ h. located _ c.of_int.ensures _ _ _ c.find_entry-e.ensures.value c.local_row-r.ensures _ _ _ c.uint-b.ensures.value,
  λ z. absurd (c.if-s-eq0.false z),
)
