use Rattle.ncl_decomp.proofs.Terms.{AddsSum, [], ap, eqb-true, length, subst, sym, under, ◌++◌, ◌∙◌, ◌∷◌, ◌≡◌}
use Rattle.ncl_decomp.proofs.Sums.{AddsSum-among}
use Rattle.ncl_decomp.proofs.Frames.{AddsSum-empty}
use Rattle.ncl_decomp.proofs.factoring.closed.Goals as goal
use Rattle.ncl_decomp.proofs.factoring.closed.Goals.{then-not-is_empty+in_ok-product+in_ok-push, else-not-is_empty}

pub returns-clause-adds : goal.returns-clause-adds
returns-clause-adds c =
    let others : c.into_vec-others.result.items ≡ c.args.frame.others = c.into_vec-others.ensures in
    elim c.if-not-is_empty.branch [
      | then-not-is_empty+in_ok-product+in_ok-push w ↦
          let pushed : c.if-not-is_empty.others.items ≡ c.args.frame.others ++ w.in_ok-product.product.items ∷ [] =
          ap (λ v. v.items) w.others-is ∙ w.in_ok-push.ensures.items ∙ (λ i. others i ++ w.from_vec.ensures i ∷ []) in
          let nodes : c.if-not-is_empty.nodes.items ≡ w.inner.new.nodes.items = ap (λ v. v.items) w.nodes-is in
          subst (λ nodes. AddsSum (c.args.frame.others ++ under c.args.frame.literal c.args.sum.now) c.args.nodes.now.items nodes c.if-not-is_empty.others.items) (sym nodes)
          (subst (AddsSum (c.args.frame.others ++ under c.args.frame.literal c.args.sum.now) c.args.nodes.now.items w.inner.new.nodes.items) (sym pushed)
          (AddsSum-among c.args.frame.others (under c.args.frame.literal c.args.sum.now) (w.in_ok-product.product.items ∷ []) c.args.nodes.now.items w.inner.new.nodes.items w.in_ok-product.ensures.adds))
      | else-not-is_empty w ↦
          let stays : c.if-not-is_empty.others.items ≡ c.args.frame.others = ap (λ v. v.items) w.others-is ∙ others in
          let nodes : c.if-not-is_empty.nodes.items ≡ c.args.nodes.now.items = ap (λ v. v.items) w.nodes-is in
          let none : length c.args.sum.now ≡ 0 = eqb-true (length c.args.sum.now) 0 (sym c.is_empty.ensures ∙ w.if-not-is_empty.false) in
          subst (λ nodes. AddsSum (c.args.frame.others ++ under c.args.frame.literal c.args.sum.now) c.args.nodes.now.items nodes c.if-not-is_empty.others.items) (sym nodes)
          (subst (AddsSum (c.args.frame.others ++ under c.args.frame.literal c.args.sum.now) c.args.nodes.now.items c.args.nodes.now.items) (sym stays)
          (AddsSum-empty c.args.frame.literal c.args.frame.others c.args.sum.now c.args.nodes.now.items none))
    ]
