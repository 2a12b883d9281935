-- `incremental::cells::Search::find_in_all` meets its contract. The loop's invariant: after i turns the state is the definition's after i turns.
use Prim.Native.Nat.{◌≤◌}
use mathlib.Core.Path.{◌≡◌}
use Rattle.bytes_at.specs.Steps.{after}
use Rattle.incremental_rules.specs.Check.{bucket_into, nothing}
use Rattle.incremental.specs.Check.{found_at, kept_cells}
use Rattle.incremental.proofs.cells.Search.find_in_all.Given as goal

abbrev pub invariant-loop-i : goal.invariant-loop-i
invariant-loop-i l = (l.found.0 ≤ 4503599627371008) × (l.found.1.0 ≤ 1048576) × (found_at l.found.0 l.found.1.0
    ≡ after (bucket_into l.self.parts.entries.big l.self.parts.entries.file.now l.self.parts.size l.self.parts.entries.index (kept_cells l.self.bytes.now l.self.column) l.self.row) nothing l.i)
