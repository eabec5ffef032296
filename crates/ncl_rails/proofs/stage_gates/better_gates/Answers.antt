use Rattle.std.proofs.Common.{arith}
use Rattle.ncl_rails.proofs.GatesLaws.{CanHaveGates-same, AreGatesOf-same}
use Rattle.ncl_rails.proofs.stage_gates.better_gates.Goals as goal

pub gates_of-requires : goal.gates_of-requires
gates_of-requires c = CanHaveGates-same c.args.network.now c.args.other.now c.requires.same c.requires.network c.requires.other

pub returns-then-is_better-clause-fewer : goal.returns-then-is_better-clause-fewer
returns-then-is_better-clause-fewer c = omega (arith, c.is_better.ensures c.if-is_better.true, c.in_ok-before.ensures, c.in_ok-after.ensures)

pub returns-then-is_better-clause-gates : goal.returns-then-is_better-clause-gates
returns-then-is_better-clause-gates c =
    AreGatesOf-same c.args.network.now c.args.other.now c.requires.same c.in_ok-layout.layout.gates c.in_ok-layout.layout.outputs.items c.in_ok-layout.ensures
    (omega (arith, returns-then-is_better-clause-fewer c, c.requires.usual.few))
