-- An item that is enabled is one of the pipeline, so the item of a hazard is.
use Rattle.ncl_sim.proofs.Terms.{Bool, DelaysData, End, Ends, Hazard, InRange, IsTimedRun, Item, List, PipelineData, TraceData, item_in_range, lost, over, quiet, state_after, subst, ℕ, ◌≡◌}

-- it was enabled before the last step
pub hazard_in_range : (p : PipelineData) (d : DelaysData) (offered : List (List Bool)) (t : TraceData) (item : Item) (time : ℕ) → IsTimedRun p d offered t → t.end ≡ Hazard item time → InRange p item
hazard_in_range p d offered t item time is hazard = by_end t.end is.ends hazard
  where
    by_end : (end : End) → Ends p offered t.steps end → end ≡ Hazard item time → InRange p item
    by_end end (lost other is_lost least) e =
        let same : other ≡ item = cc in
        subst (InRange p) same (item_in_range p (state_after p offered is_lost.before) other is_lost.was)
    by_end end (quiet none off) e = absurd cc
    by_end end (over none many other on) e = absurd cc
