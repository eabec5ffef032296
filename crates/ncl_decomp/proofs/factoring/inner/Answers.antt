use Rattle.ncl_decomp.proofs.Terms.{AddsSum, Signal, [], ap, is_empty, list_any, subst, sym, true, under, ◌++◌, ◌∙◌, ◌∷◌, ◌≡◌}
use Rattle.ncl_decomp.proofs.Frames.{AddsSum-inner, AddsSum-alone}
use Rattle.ncl_decomp.proofs.factoring.inner.Goals as goal
use Rattle.ncl_decomp.proofs.factoring.inner.Goals.{then-not-has_empty+in_ok-rest+in_ok-push-2, else-not-has_empty}

pub returns-clause-adds : goal.returns-clause-adds
returns-clause-adds c =
    let literal : Signal = c.args.literal in
    let one : c.push.new.self.items ≡ c.args.literal ∷ [] = c.in_ok-push.ensures.items ∙ ap (λ xs. xs ++ c.args.literal ∷ []) c.new-product.ensures.items in
    elim c.if-not-has_empty.branch [
      | then-not-has_empty+in_ok-rest+in_ok-push-2 w ↦
          let two : c.if-not-has_empty.product.items ≡ c.args.literal ∷ w.in_ok-rest.rest ∷ [] =
          ap (λ v. v.items) w.product-is ∙ w.in_ok-push-2.ensures.items ∙ ap (λ xs. xs ++ w.in_ok-rest.rest ∷ []) one in
          let nodes : c.if-not-has_empty.nodes.items ≡ w.summed.new.nodes.items = ap (λ v. v.items) w.nodes-is in
          subst (λ nodes. AddsSum (under literal c.args.sum.now) c.args.nodes.now.items nodes (c.if-not-has_empty.product.items ∷ [])) (sym nodes)
          (subst (λ product. AddsSum (under literal c.args.sum.now) c.args.nodes.now.items w.summed.new.nodes.items (product ∷ [])) (sym two)
          (AddsSum-inner literal w.in_ok-rest.rest c.args.sum.now c.args.nodes.now.items w.summed.new.nodes.items w.in_ok-rest.ensures))
      | else-not-has_empty w ↦
          let alone : c.if-not-has_empty.product.items ≡ c.args.literal ∷ [] = ap (λ v. v.items) w.product-is ∙ one in
          let nodes : c.if-not-has_empty.nodes.items ≡ c.args.nodes.now.items = ap (λ v. v.items) w.nodes-is in
          let empty : list_any is_empty c.args.sum.now ≡ true = sym c.has_empty.ensures ∙ w.if-not-has_empty.false in
          subst (λ nodes. AddsSum (under literal c.args.sum.now) c.args.nodes.now.items nodes (c.if-not-has_empty.product.items ∷ [])) (sym nodes)
          (subst (λ product. AddsSum (under literal c.args.sum.now) c.args.nodes.now.items c.args.nodes.now.items (product ∷ [])) (sym alone)
          (AddsSum-alone literal c.args.sum.now c.args.nodes.now.items c.requires.some empty))
    ]
