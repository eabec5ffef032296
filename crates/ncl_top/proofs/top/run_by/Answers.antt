use Rattle.std.proofs.Common.{refl}
use Rattle.ncl_top.proofs.Ends.{ran_by}
use Rattle.ncl_top.proofs.Answered.{IsAnswered-ran}
use Rattle.ncl_top.proofs.top.run_by.Goals as goal

pub returns-in-Made-clause-answered : goal.returns-in-Made-clause-answered
returns-in-Made-clause-answered g c =
    IsAnswered-ran _ _ _ _ _ _ (ran_by _ _ _ _ _ _ _ _ _ c.in-Made.ensures.says c.deref.ensures.value c.tell.ensures.tells)
    c.in-Made.ensures.source.files c.in-Made.ensures.source.faults c.tell.ensures.faults

pub returns-in-Fixed-clause-answered : goal.returns-in-Fixed-clause-answered
returns-in-Fixed-clause-answered g c =
    IsAnswered-ran _ _ _ _ _ _ (ran_by _ _ _ _ _ _ _ _ _ c.in-Fixed.ensures.says refl c.tell-in-Fixed.ensures.tells)
    c.in-Fixed.ensures.source.files c.in-Fixed.ensures.source.faults c.tell-in-Fixed.ensures.faults
