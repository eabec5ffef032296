use Rattle.ncl_decomp.proofs.Terms.{AddsSum, whole}
use Rattle.ncl_decomp.proofs.Frames.{left_over}
use Rattle.ncl_decomp.proofs.factoring.factored.Given as goal

abbrev pub invariant-loop-frames : goal.invariant-loop-frames
invariant-loop-frames l =
    AddsSum l.fn.sum.items l.initial.nodes.items l.nodes.items (whole l.frames.items l.sum.items)

abbrev pub decreases-loop-frames : goal.decreases-loop-frames
decreases-loop-frames l = left_over l.sum.items l.frames.items
