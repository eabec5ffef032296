use Rattle.std.proofs.Common.{◌≡◌, ◌++◌, take}
use Rattle.ncl_lines.specs.WhyText.{step_lines}
use Rattle.ncl_lines.proofs.explanations.push_steps.Given as goal

-- the lines of the steps so far
abbrev pub invariant-loop-place : goal.invariant-loop-place
invariant-loop-place l = l.text.items ≡ l.fn.text.items ++ step_lines l.pipeline.netlist 1 (take l.place l.run)
