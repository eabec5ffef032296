-- The judgement within a limit of nodes, as a verdict that computes.
use Rattle.ncl_verdict.proofs.Terms.{Limit, List, None, Some, StageData, Stop, Variant, ap, count-computes, counted, if◌then◌else◌, judged, judgement, nat_lt, ℕ, ◌≡◌}

-- the stop at a limit, by any way to count
abbrev pub stop_by : (StageData → Variant → ℕ) → ℕ → Stop
stop_by counting limit s variant = if nat_lt limit (counting s variant) then Some (Limit s.number) else None

pub judgement-computes : (limit : ℕ) (stages : List StageData) → judgement limit stages ≡ judged (stop_by counted limit) stages
judgement-computes limit stages = ap (λ (counting : StageData → Variant → ℕ). judged (stop_by counting limit) stages) (λ i s variant. count-computes s variant i)
