use Rattle.ncl_decomp.proofs.Terms.{IsSameSum, List, Signal, [], ap, arith, count_by_more_no, count_by_more_yes, false, has, length, length-append, subst, sym, take, take_more, true, under, without, ℕ, ◌++◌, ◌+◌, ◌<◌, ◌∙◌, ◌∷◌, ◌≡◌, ◌≤◌}
use Rattle.ncl_decomp.proofs.Parting.{IsSameSum-other, IsSameSum-rest, has_if_short, lacks_if_whole}
use Rattle.ncl_decomp.proofs.factoring.parted.Goals as goal
use Rattle.ncl_decomp.proofs.factoring.parted.Goals.{then-len-items+in_ok-push, else-len-items+in_ok-push-2}

pub loop-product-preserved : goal.loop-product-preserved
loop-product-preserved c =
    let product : List Signal = c.product-item.result in
    let literal : Signal = c.args.literal in
    let sum : List (List Signal) = c.args.sum.now in
    let i : ℕ = c.loop-product.product-index in
    let rest : List Signal = c.in_ok-rest.rest.items in
    let others : List (List Signal) = c.loop-product.others.items in
    let rests : List (List Signal) = c.loop-product.rests.items in
    let out : c.in_ok-rest.rest.items ≡ without literal product = c.in_ok-rest.ensures ∙ ap (without literal) c.items.ensures in
    let upto : take (i + 1) sum ≡ take i sum ++ product ∷ [] = take_more sum i product c.loop-product-test.true ∙ (λ j. take i sum ++ sym c.product-item.is j ∷ []) in
    elim c.if-len-items.branch [
      | then-len-items+in_ok-push w ↦
          let stays : c.if-len-items.others.items ≡ c.loop-product.others.items = ap (λ v. v.items) w.others-is in
          let pushed : c.if-len-items.rests.items ≡ c.loop-product.rests.items ++ c.in_ok-rest.rest.items ∷ [] =
          ap (λ v. v.items) w.rests-is ∙ w.in_ok-push.ensures.items ∙ (λ j. c.loop-product.rests.items ++ w.from_vec.ensures j ∷ []) in
          let less : length c.in_ok-rest.rest.items < length c.product-item.result = omega (arith, w.if-len-items.true, c.len.ensures, ap length c.items-in-loop-product.ensures) in
          let found : has literal product ≡ true = has_if_short literal product (omega (arith, less, ap length out)) in
          record {
            same =
                subst (λ sum. IsSameSum sum (c.if-len-items.others.items ++ under literal c.if-len-items.rests.items)) (sym upto)
                (subst (λ others. IsSameSum (take i sum ++ product ∷ []) (others ++ under literal c.if-len-items.rests.items)) (sym stays)
                (IsSameSum-rest (take i sum) others rests literal product rest c.if-len-items.rests.items c.loop-product.invariant.same out less pushed));
            having = omega (arith, c.loop-product.invariant.having, ap length pushed, length-append rests (rest ∷ []), count_by_more_yes (has literal) sum i product c.loop-product-test.true (subst (λ p. has literal p ≡ true) c.product-item.is found));
          }
      | else-len-items+in_ok-push-2 w ↦
          let stays : c.if-len-items.rests.items ≡ c.loop-product.rests.items = ap (λ v. v.items) w.rests-is in
          let pushed : c.if-len-items.others.items ≡ c.loop-product.others.items ++ c.in_ok-rest.rest.items ∷ [] =
          ap (λ v. v.items) w.others-is ∙ w.in_ok-push-2.ensures.items ∙ (λ j. c.loop-product.others.items ++ w.from_vec-else-len-items.ensures j ∷ []) in
          let whole : length c.product-item.result ≤ length c.in_ok-rest.rest.items = omega (arith, w.if-len-items.false, c.len.ensures, ap length c.items-in-loop-product.ensures) in
          let lacks : has literal product ≡ false = lacks_if_whole literal product (omega (arith, whole, ap length out)) in
          record {
            same =
                subst (λ sum. IsSameSum sum (c.if-len-items.others.items ++ under literal c.if-len-items.rests.items)) (sym upto)
                (subst (λ rests. IsSameSum (take i sum ++ product ∷ []) (c.if-len-items.others.items ++ under literal rests)) (sym stays)
                (IsSameSum-other (take i sum) others rests literal product rest c.if-len-items.others.items c.loop-product.invariant.same out whole pushed));
            having = omega (arith, c.loop-product.invariant.having, ap length stays, count_by_more_no (has literal) sum i product c.loop-product-test.true (subst (λ p. has literal p ≡ false) c.product-item.is lacks));
          }
    ]
