use Rattle.std.proofs.Common.{◌≡◌, take}
use Rattle.ncl_report.specs.TraceText.{taken_lines}
use Rattle.ncl_report.proofs.traces.taken_text.Given as goal

-- the lines of the words so far
abbrev pub invariant-loop-place : goal.invariant-loop-place
invariant-loop-place l = l.text.items ≡ taken_lines 1 (take l.place l.delivered)
