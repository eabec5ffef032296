use Rattle.ncl_template.proofs.Terms.{arith, length-take-le, sym}
use Rattle.ncl_template.proofs.joint.last_gates.Goals as goal

pub slice_bounds-gate_over-end : goal.slice_bounds-gate_over-end
slice_bounds-gate_over-end c = sym (length-take-le 3 c.items-ins.result.now (omega (arith, c.if-ins-ne4.false)))

pub slice_bounds-gate_over-end-2 : goal.slice_bounds-gate_over-end-2
slice_bounds-gate_over-end-2 c = sym (length-take-le 3 c.items-ins.result.now (omega (arith, c.if-ins-ne4.false)))

pub bounds-ins-3 : goal.bounds-ins-3
bounds-ins-3 c = omega (arith, c.if-ins-ne4.false)
