use Rattle.ncl_shape.proofs.ExampleChains.{chain_of_three, no_chain_of_cut, cut_breaks}
use Rattle.ncl_shape.proofs.examples.chain_of_three.Goals as goal

pub returns-clause-chain : goal.returns-clause-chain
returns-clause-chain c = chain_of_three

pub returns-clause-none : goal.returns-clause-none
returns-clause-none c = no_chain_of_cut

pub returns-clause-rule : goal.returns-clause-rule
returns-clause-rule c = cut_breaks
