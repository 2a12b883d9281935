-- `standard_index::rows::bit_length` meets its contract.
use mathlib.Core.Path.{sym}
use Rattle.standard_rules.proofs.Halving.{length_leading}
use Rattle.standard_index.proofs.rows.bit_length.Goals as goal

pub returns : goal.returns
returns c = sym (length_leading 64 _ c.ranges.n.fits)
