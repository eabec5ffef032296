-- What the end of a timed run names is there.
use Rattle.std.proofs.Common.{◌≡◌, Bool, List, refl}
use Rattle.ncl_shape.specs.Pipeline.{PipelineData}
use Rattle.ncl_delay.specs.Delays.{DelaysData}
use Rattle.ncl_sim.specs.declared.trace.End.{End}
use Rattle.ncl_sim.specs.declared.trace.End.TheVariants.{Quiet, Hazard, Over}
use Rattle.ncl_sim.specs.TimedRun.{TraceData, IsTimedRun}
use Rattle.ncl_sim.proofs.HazardRange.{hazard_in_range}
use Rattle.ncl_report.specs.TraceText.{NamesItemOf}

-- an item that a timed run loses is one of the pipeline's
pub names_item : (p : PipelineData) (d : DelaysData) (offered : List (List Bool)) (t : TraceData) → IsTimedRun p d offered t → NamesItemOf p t.end
names_item p d offered t run = by_end t.end refl
  where
    by_end : (e : End) → t.end ≡ e → NamesItemOf p e
    by_end Quiet is = tt
    by_end (Hazard item time) is = hazard_in_range p d offered t item time run is
    by_end Over is = tt
