use Rattle.std.proofs.Common.{◌≡◌, ◌++◌, take}
use Rattle.std.specs.List.{zip, flat_map}
use Rattle.ncl_report.specs.DemoText.{pair_line}
use Rattle.ncl_report.proofs.demos.push_words.Given as goal

-- the pairs so far
abbrev pub invariant-loop-place : goal.invariant-loop-place
invariant-loop-place l = l.text.items ≡ l.initial.text.items ++ flat_map pair_line (take l.place (zip l.offered l.delivered))
