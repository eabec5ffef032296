use Rattle.ncl_stage.proofs.Terms.{IsLeft, IsLive, Keeps, net_at}
use Rattle.ncl_stage.proofs.observing.is_observed.Given as goal

-- wherever the net is high, something is left or a gate falls with it
abbrev pub invariant-loop-reader : goal.invariant-loop-reader
invariant-loop-reader g l = record {
  kept : Keeps (g.P.Space.meaning l.fn.space) (g.P.Space.meaning l.space);
  live : IsLive (g.P.Space.meaning l.space) l.left;
  left : IsLeft l.base.wiring.order l.stage (net_at l.stage l.place) ((g.P.Space.meaning l.space).table l.left);
}
