use Rattle.ncl_base.proofs.Terms.{Grew, length, take, ◌-◌, ◌≤◌}
use Rattle.ncl_base.proofs.sink.deliver.Given as goal

-- what was written so far
abbrev pub invariant-loop-done : goal.invariant-loop-done
invariant-loop-done g l = record {
  within : l.done ≤ length l.bytes;
  grew : Grew (g.K.Sink.written l.fn.sink) (take l.done l.bytes) (g.K.Sink.written l.sink);
  faults : g.K.Sink.faults l.fn.sink ≤ g.K.Sink.faults l.sink;
}

abbrev pub decreases-loop-done : goal.decreases-loop-done
decreases-loop-done g l = length l.bytes - l.done
