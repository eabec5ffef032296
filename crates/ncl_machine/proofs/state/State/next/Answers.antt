use Rattle.ncl_machine.proofs.Terms.{ap, net_values, next_of_cell, pin_values, take_all, ◌∙◌, ◌≡◌}
use Rattle.ncl_machine.proofs.state.State.next.Goals as goal

pub returns : goal.returns
returns c =
    let v = net_values c.args.self.now.values in
    let cell = c.args.cell.now in
    let pins : c.as_slice.result.now ≡ pin_values v cell.ins.items =
    c.as_slice.ensures.value ∙ c.loop-net.invariant ∙ ap (pin_values v) (take_all _ _ c.loop-net-test.false ∙ c.as_slice-net-items.ensures.value) in
    c.next.ensures ∙ ap (λ ins. next_of_cell cell.kind ins c.value-2.result) pins ∙ ap (next_of_cell cell.kind (pin_values v cell.ins.items)) c.value-2.ensures
