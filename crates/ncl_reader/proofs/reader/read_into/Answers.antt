use Rattle.ncl_reader.proofs.Terms.{arith}
use Rattle.ncl_reader.proofs.reader.read_into.Goals as goal

pub returns-clause-parts : goal.returns-clause-parts
returns-clause-parts c = c.in_ok-read_tokens.ensures.parts _ c.in_ok-take_parts.ensures.says

pub returns-clause-differ : goal.returns-clause-differ
returns-clause-differ c = let (p, holds, few) = c.in_ok-read_tokens.ensures.few in c.in_ok-take_parts.ensures.differ p holds

pub returns-clause-few : goal.returns-clause-few
returns-clause-few c = let (p, holds, few) = c.in_ok-read_tokens.ensures.few in omega (arith, few, c.in_ok-take_parts.ensures.few p holds)
