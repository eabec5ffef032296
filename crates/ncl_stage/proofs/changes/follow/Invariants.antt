use Rattle.ncl_stage.proofs.Terms.{AreWaiting, Making, MarksChanges, length, net_tables_by, take, ◌-◌, ◌≡◌, ◌≤◌}
use Rattle.ncl_stage.proofs.changes.follow.Given as goal

-- the functions of the nets at the places so far have been made, and exactly those that have changed are marked; what is kept
-- low behind them, or reads one that has changed, waits
abbrev pub invariant-loop-place : goal.invariant-loop-place
invariant-loop-place g l = record {
  making : Making (g.P.Space.meaning l.fn.space) (g.P.Space.meaning l.space) l.changes.refs.items (take (length l.changes.refs.items) (net_tables_by l.base.wiring.order l.stage l.variant));
  many : length l.changes.changed.items ≡ length l.changes.refs.items;
  within : length l.changes.refs.items ≤ length l.base.wiring.nets;
  marks : MarksChanges l.base.wiring.order l.stage l.variant l.changes.changed.items;
  waiting : AreWaiting l.base.wiring l.stage l.variant (length l.changes.refs.items) l.changes.waiting.items;
}

abbrev pub decreases-loop-place : goal.decreases-loop-place
decreases-loop-place g l = length l.base.wiring.nets - length l.changes.refs.items
