use Rattle.std.proofs.Common.{arith, length-drop, length-take}
use Rattle.ncl_base.proofs.Written.{grew_on, grew_part}
use Rattle.ncl_base.proofs.sink.deliver.Goals as goal

pub loop-done-preserved : goal.loop-done-preserved
loop-done-preserved g c =
    let h = simp (length-take, length-drop) at c.in-Ok.ensures.within in
    record {
      within = omega arith;
      grew = grew_on _ _ _ _ _ _ c.loop-done.invariant.grew c.in-Ok.ensures.grew;
      faults = omega arith;
    }

pub returns-in-Err-clause-part : goal.returns-in-Err-clause-part
returns-in-Err-clause-part g c = grew_part _ _ _ _ c.loop-done.invariant.grew _ c.in-Err.ensures.kept
