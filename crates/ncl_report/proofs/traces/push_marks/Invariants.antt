use Rattle.std.proofs.Common.{◌≡◌, ◌++◌, take, map}
use Rattle.std.specs.List.{zip}
use Rattle.ncl_report.specs.TraceText.{mark_of}
use Rattle.ncl_report.proofs.traces.push_marks.Given as goal

-- the pairs so far
abbrev pub invariant-loop-place : goal.invariant-loop-place
invariant-loop-place l = l.text.items ≡ l.initial.text.items ++ map (λ rails. mark_of rails.0 rails.1) (take l.place (zip l.zero l.one))
