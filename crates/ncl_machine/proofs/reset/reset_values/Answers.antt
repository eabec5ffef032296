use Rattle.ncl_machine.proofs.Terms.{ap, arith, drop, length, net_values, take_at, ◌∙◌}
use Rattle.ncl_machine.proofs.reset.reset_values.Goals as goal

pub returns-clause-values : goal.returns-clause-values
returns-clause-values c =
    ap net_values (take_at c.settle.new.values (drop (length c.settle.new.values) c.in_ok-values.values.items) c.in_ok-values.values.len (omega (arith, c.settle.auto.values, c.deref_mut.ensures.len)))
    ∙ c.settle.ensures
