use Rattle.ncl_stage.proofs.Terms.{Making, net_tables_by, take}
use Rattle.ncl_stage.proofs.nets.net_refs.Given as goal

-- the functions of the nets at the places so far have been made
abbrev pub invariant-loop-place : goal.invariant-loop-place
invariant-loop-place g l = Making (g.P.Space.meaning l.fn.space) (g.P.Space.meaning l.space) l.refs.items (take l.place (net_tables_by l.wiring.order l.stage l.variant))
