use Rattle.std.proofs.Common.{arith}
use Rattle.ncl_decomp.proofs.ProductTerms.{terms_count}
use Rattle.ncl_decomp.proofs.Parts.{AddsSum-tree}
use Rattle.ncl_decomp.proofs.wide.summed.Goals as goal

pub join-requires-clause-some : goal.join-requires-clause-some
join-requires-clause-some c = omega (arith, c.in_ok-terms.ensures.as_many, c.requires.some)

pub join-requires-clause-few : goal.join-requires-clause-few
join-requires-clause-few c = omega (arith, terms_count _ _ _ _ c.in_ok-terms.ensures, c.requires.few)

pub returns : goal.returns
returns c =
    AddsSum-tree c.args.sum.now c.args.nodes.now.items c.terms.new.nodes.items c.join.new.nodes.items c.in_ok-terms.terms.items c.in_ok-signal.signal c.requires.some c.in_ok-terms.ensures c.in_ok-signal.ensures
