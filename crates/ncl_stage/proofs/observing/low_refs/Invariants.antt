use Rattle.ncl_stage.proofs.Terms.{HaveTables, Keeps, low_tables_by, take}
use Rattle.ncl_stage.proofs.observing.low_refs.Given as goal

-- the functions of where the nets at the places so far are low
abbrev pub invariant-loop-place : goal.invariant-loop-place
invariant-loop-place g l = record {
  kept : Keeps (g.P.Space.meaning l.fn.space) (g.P.Space.meaning l.space);
  have : HaveTables (g.P.Space.meaning l.space) l.lows.items (take l.place (low_tables_by l.base.wiring.order l.stage));
}
