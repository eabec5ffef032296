use Rattle.std.proofs.Common.{arith}
use Rattle.ncl_cells.proofs.StandIns.{Agrees-all}
use Rattle.ncl_cells.proofs.offer.Trying.test_all.Goals as goal

pub returns : goal.returns
returns c = Agrees-all c.args.self.now.nodes.now c.args.self.now.place c.args.self.now.offer.now.leaves c.args.self.now.offer.now.node (λ n below. c.loop-number.invariant n (omega (arith, below)))
