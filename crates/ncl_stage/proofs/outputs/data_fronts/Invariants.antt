use Rattle.ncl_stage.proofs.Terms.{Making, front_tables, map, take}
use Rattle.ncl_stage.proofs.OutputLaws.{IsLast}
use Rattle.ncl_stage.proofs.outputs.data_fronts.Given as goal

-- the conjunctions so far have been made, and the last is at hand
abbrev pub invariant-loop-next : goal.invariant-loop-next
invariant-loop-next g l = record {
  making : Making (g.P.Space.meaning l.fn.space) (g.P.Space.meaning l.space) l.made.items (take l.next-index (front_tables (g.P.Space.meaning l.fn.space).width (map (g.P.Space.meaning l.fn.space).table l.refs)));
  last : IsLast l.made.items l.last;
}
