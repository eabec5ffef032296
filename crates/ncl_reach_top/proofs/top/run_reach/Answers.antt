use Rattle.std.proofs.Common.{refl}
use Rattle.ncl_reach_top.proofs.Ends.{answered_by}
use Rattle.ncl_reach_top.proofs.top.run_reach.Goals as goal

pub returns-in-Made-clause-answered : goal.returns-in-Made-clause-answered
returns-in-Made-clause-answered g c =
    answered_by _ _ _ _ _ _ _ _ _ c.in-Made.ensures.says c.deref.ensures.value c.tell.ensures.tells
    c.in-Made.ensures.source.files c.in-Made.ensures.source.faults c.tell.ensures.faults

pub returns-in-Fixed-clause-answered : goal.returns-in-Fixed-clause-answered
returns-in-Fixed-clause-answered g c =
    answered_by _ _ _ _ _ _ _ _ _ c.in-Fixed.ensures.says refl c.tell-in-Fixed.ensures.tells
    c.in-Fixed.ensures.source.files c.in-Fixed.ensures.source.faults c.tell-in-Fixed.ensures.faults
