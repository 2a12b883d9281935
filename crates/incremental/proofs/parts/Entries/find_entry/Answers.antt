-- `incremental::parts::Entries::find_entry` meets its contract. The loop's invariant: the row's entry is one of those that are left.
use native.Mathlib.Omega.{arith}
use Rattle.incremental.proofs.parts.Entry.{halving_start, halving_end, halving_down, halving_up}
use Rattle.incremental.proofs.parts.Entries.find_entry.Goals as goal

pub loop-first-init : goal.loop-first-init
loop-first-init c = halving_start _ _ _ _ _ c.requires.0 _ c.requires.1

pub loop-first-preserved-then-row-from : goal.loop-first-preserved-then-row-from
loop-first-preserved-then-row-from c = halving_down c.loop-first.invariant c.first_row-from.ensures (omega arith) (omega arith) c.if-row-from.true

pub loop-first-preserved : goal.loop-first-preserved
loop-first-preserved c = halving_up c.loop-first.invariant c.first_row-from.ensures (omega arith) c.if-row-from.false

pub returns : goal.returns
returns c = halving_end _ _ _ _ _ c.requires.0 _ c.requires.1 c.loop-first.invariant (omega arith)
