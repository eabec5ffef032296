use Rattle.ncl_blif.proofs.Terms.{map, signal_number, take, ◌≡◌}
use Rattle.ncl_blif.proofs.finish.numbered_outputs.Given as goal

-- the numbers of the outputs so far
abbrev pub invariant-loop-output : goal.invariant-loop-output
invariant-loop-output l =
    l.numbers.items ≡ map (λ output. signal_number l.draft output.signal) (take l.output-index l.output-items)
