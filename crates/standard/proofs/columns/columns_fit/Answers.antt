-- `standard::columns::columns_fit` meets its contract. The loop's invariant: the first i columns are placed and counted.
use mathlib.Core.Path.{◌≡◌}
use native.Mathlib.Omega.{arith}
use Rattle.table_rules.specs.ColumnDesc.{no_column}
use Rattle.table_rules.specs.ColumnSet.{no_binding}
use Rattle.standard.proofs.columns.Counting.{counting_start, counting_le, counting_again}
use Rattle.standard.proofs.columns.Placing.{placing_start, placing_again, placing_stop}
use Rattle.standard.proofs.columns.Together.{not_placed, not_counted, together}
use Rattle.standard.proofs.columns.columns_fit.Goals as goal

pub loop-i-init : goal.loop-i-init
loop-i-init c = (placing_start _ _ _ _, counting_start _ _)

pub returns-then-not-extent_fits : goal.returns-then-not-extent_fits
unfolding no_column no_binding
returns-then-not-extent_fits c =
    not_placed _ _ _ _ _ _ (placing_stop _ _ _ c.loop-i.invariant.0 c.extent_of-x.ensures c.extent_fits.ensures _ (omega arith) c.if-not-extent_fits.true)

pub one_more-requires : goal.one_more-requires
one_more-requires c = (c.loop-i.invariant.1.long, counting_le c.loop-i.invariant.1 (omega arith))

pub loop-i-preserved : goal.loop-i-preserved
unfolding no_column no_binding
loop-i-preserved c = (
  placing_again _ _ _ c.loop-i.invariant.0 c.extent_of-x.ensures c.extent_fits.ensures (omega arith) c.if-not-extent_fits.false,
  counting_again c.loop-i.invariant.1 (omega arith) (rw c.extent_of-x.ensures at c.one_more.ensures),
)

pub returns-then-not-counts_fit : goal.returns-then-not-counts_fit
returns-then-not-counts_fit c =
    let e : c.loop-i.i ≡ c.args.d.now.column_count = omega arith in
    not_counted _ _ _ _ _ _ (rw e at c.loop-i.invariant.0.fit) (c.counts_fit.ensures _ (rw e at c.loop-i.invariant.1.counted)) c.if-not-counts_fit.true

pub returns : goal.returns
returns c =
    let e : c.loop-i.i ≡ c.args.d.now.column_count = omega arith in
    together _ _ _ _ _ _ (rw e at c.loop-i.invariant.0.fit) (c.counts_fit.ensures _ (rw e at c.loop-i.invariant.1.counted)) c.if-not-counts_fit.false
    c.all_apart.ensures (rw e at c.loop-i.invariant.0.places)
