use Rattle.ncl_merge.proofs.Terms.{assigned, pin_values, pin_values-same, values_of, with_net, ◌∙◌}
use Rattle.ncl_merge.proofs.Folds.{with_net-again}
use Rattle.ncl_merge.proofs.values.pins_at.Goals as goal

pub returns : goal.returns
returns c =
    let a = c.args.assignment.now in
    let is = c.assignment.view_is in
    c.pins_with.ensures
    ∙ (λ i. pin_values (with_net (values_of a) (is i).forced.0 (is i).bit) c.args.pins.now)
    ∙ pin_values-same _ _ c.args.pins.now (λ net m. with_net-again (assigned a.nets a.word) a.forced.0 a.bit net.0)
