use Rattle.ncl_match.proofs.SignalLaws.{PairsLoop, length, signal_function, step_tables, ◌+◌, ◌≡◌}
use Rattle.ncl_match.proofs.signals.step_pairs.Given as goal

-- the signals so far have their pairs
abbrev pub invariant-loop-step : goal.invariant-loop-step
invariant-loop-step g l =
    let old = g.P.Space.meaning l.fn.space in
    record {
      many : length l.pairs.items ≡ old.width + l.step-index;
      done : PairsLoop old (g.P.Space.meaning l.space) (step_tables old.width l.steps l.marks) (signal_function l.steps) l.marks l.pairs.items l.step-index;
    }
