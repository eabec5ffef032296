use Rattle.ncl_decomp.proofs.Terms.{AddsTerms, take}
use Rattle.ncl_decomp.proofs.wide.terms.Given as goal

abbrev pub invariant-loop-product : goal.invariant-loop-product
invariant-loop-product l =
    AddsTerms (take l.product-index l.sum) l.initial.nodes.items l.nodes.items l.terms.items
