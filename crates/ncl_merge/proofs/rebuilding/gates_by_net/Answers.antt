use Rattle.ncl_merge.proofs.Terms.{HaveGates, all_of, ap, length, subst, sym, take-written, ◌∙◌}
use Rattle.ncl_merge.proofs.rebuilding.gates_by_net.Goals as goal

pub returns-clause-sized : goal.returns-clause-sized
returns-clause-sized c =
    let long = c.put_lists.auto.gates ∙ ap length c.deref_mut.ensures.value in
    let size = take-written c.in_ok-gates.gates.len c.put_lists.new.gates c.in_ok-gates.gates.items c.in_ok-gates.gates.ok.0 long in
    ap length size ∙ long ∙ sym c.in_ok-gates.gates.ok.0 ∙ c.in_ok-gates.ensures.len

pub returns-clause-gates : goal.returns-clause-gates
returns-clause-gates c =
    let long = c.put_lists.auto.gates ∙ ap length c.deref_mut.ensures.value in
    subst (λ gates. HaveGates gates (all_of c.args.lists.now)) (sym (take-written c.in_ok-gates.gates.len c.put_lists.new.gates c.in_ok-gates.gates.items c.in_ok-gates.gates.ok.0 long)) c.in_ok-put_lists.ensures
