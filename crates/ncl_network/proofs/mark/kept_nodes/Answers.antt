use Rattle.ncl_network.proofs.Terms.{IsMarked, ap, false, length, replicate, subst, sym, take-written, ◌∙◌}
use Rattle.ncl_network.proofs.mark.kept_nodes.Goals as goal

pub mark_reaching-requires-clause-fresh : goal.mark_reaching-requires-clause-fresh
mark_reaching-requires-clause-fresh c =
    c.deref_mut.ensures.value ∙ c.in_ok-kept.ensures.items_if_clones_equal (λ y is. is) ∙ ap (λ nodes. replicate (length nodes) false) c.items.ensures

pub returns : goal.returns
returns c =
    let long = c.mark_reaching.auto.kept ∙ ap length c.deref_mut.ensures.value in
    subst (λ kept. IsMarked c.args.network.now kept 0) (sym (take-written c.in_ok-kept.kept.len c.mark_reaching.new.kept c.in_ok-kept.kept.items c.in_ok-kept.kept.ok.0 long)) c.mark_reaching.ensures
