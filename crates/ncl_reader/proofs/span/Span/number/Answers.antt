use Rattle.ncl_reader.proofs.Bits.{arith, number-rises, number-falls}
use Rattle.ncl_reader.proofs.span.Span.number.Goals as goal

pub returns-then-self : goal.returns-then-self
returns-then-self c = number-rises c.args.self c.args.place c.if-self.true c.requires

pub returns : goal.returns
returns c = number-falls c.args.self c.args.place (omega arith) c.requires
