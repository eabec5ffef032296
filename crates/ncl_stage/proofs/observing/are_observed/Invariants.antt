use Rattle.ncl_stage.proofs.Terms.{HaveTables, IsAlwaysObserved, Keeps, low_tables_by, net_at, ℕ, ◌<◌}
use Rattle.ncl_stage.proofs.observing.are_observed.Given as goal

-- the nets at the places so far are observed
abbrev pub invariant-loop-place : goal.invariant-loop-place
invariant-loop-place g l = record {
  kept : Keeps (g.P.Space.meaning l.fn.space) (g.P.Space.meaning l.space);
  lows : HaveTables (g.P.Space.meaning l.space) l.lows.items (low_tables_by l.base.wiring.order l.stage);
  seen : (place : ℕ) → place < l.place → IsAlwaysObserved l.stage (net_at l.stage place);
}
