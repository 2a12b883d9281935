-- `listing::read_all` is safe: so far no more than the buffer holds was read.
use Rattle.std.proofs.Common.{◌≤◌, length}
use Rattle.listing.proofs.read_all.Given as goal

abbrev pub invariant-loop : goal.invariant-loop
invariant-loop g l = l.n ≤ length l.buffer
