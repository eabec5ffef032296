use Rattle.ncl_decomp.proofs.Terms.{AddsTerms, AddsTree, And, List, Signal, [], ap, arith, common_steps, length, subst, sym, take, take_more, ℕ, ◌++◌, ◌+◌, ◌<◌, ◌∙◌, ◌∷◌, ◌≡◌}
use Rattle.ncl_decomp.proofs.ProductTerms.{AddsTerms-none, AddsTerms-more, terms_room}
use Rattle.ncl_decomp.proofs.wide.terms.Goals as goal

pub loop-product-init : goal.loop-product-init
loop-product-init c = subst (λ terms. AddsTerms [] c.args.nodes.now.items c.args.nodes.now.items terms) (sym c.new-terms.ensures.items) (AddsTerms-none c.args.nodes.now.items)

pub join-requires-clause-some : goal.join-requires-clause-some
join-requires-clause-some c =
    let is : c.in_ok-leaves.leaves.items ≡ c.product-item.result = c.in_ok-leaves.ensures.items_if_clones_equal (λ x y is. is) ∙ c.items.ensures in
    subst (λ leaves. 0 < length leaves) (sym is) (subst (λ product. 0 < length product) (sym c.product-item.is) (c.requires.filled c.loop-product.product-index c.product-item.result c.loop-product-test.true))

pub join-requires-clause-few : goal.join-requires-clause-few
join-requires-clause-few c =
    let is : c.in_ok-leaves.leaves.items ≡ c.product-item.result = c.in_ok-leaves.ensures.items_if_clones_equal (λ x y is. is) ∙ c.items.ensures in
    omega (arith, ap length is, terms_room c.args.sum.now c.loop-product.product-index c.args.nodes.now.items c.loop-product.nodes.items c.loop-product.terms.items c.product-item.result c.loop-product-test.true c.product-item.is c.loop-product.invariant, c.requires.few)

pub loop-product-preserved : goal.loop-product-preserved
loop-product-preserved c =
    let product : List Signal = c.product-item.result in
    let sum : List (List Signal) = c.args.sum.now in
    let i : ℕ = c.loop-product.product-index in
    let is : c.in_ok-leaves.leaves.items ≡ product = c.in_ok-leaves.ensures.items_if_clones_equal (λ x y is. is) ∙ c.items.ensures in
    let grown : AddsTree And product c.loop-product.nodes.items c.join.new.nodes.items c.in_ok-term.term =
    subst (λ leaves. AddsTree And leaves c.loop-product.nodes.items c.join.new.nodes.items c.in_ok-term.term) is c.in_ok-term.ensures in
    let pushed : c.push.new.self.items ≡ c.loop-product.terms.items ++ c.in_ok-term.term ∷ [] = grind (arith, common_steps) in
    let upto : take (i + 1) sum ≡ take i sum ++ product ∷ [] = take_more sum i product c.loop-product-test.true ∙ (λ j. take i sum ++ sym c.product-item.is j ∷ []) in
    subst (λ sum. AddsTerms sum c.args.nodes.now.items c.join.new.nodes.items c.push.new.self.items) (sym upto)
    (AddsTerms-more (take i sum) c.args.nodes.now.items c.loop-product.nodes.items c.loop-product.terms.items c.loop-product.invariant product c.join.new.nodes.items c.in_ok-term.term grown c.push.new.self.items pushed)
