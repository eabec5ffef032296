use Rattle.ncl_merge.proofs.Terms.{Bool, JointData, List, NetId, Nets, ap, length, length-map, pin_values, set_of, value_through, values_of, with_net, ◌∙◌, ◌≡◌}
use Rattle.ncl_merge.proofs.values.value_through.Goals as goal

pub pins_at-requires : goal.pins_at-requires
pins_at-requires c = c.deref.ensures.1

pub pins_with-requires : goal.pins_with-requires
pins_with-requires c = c.deref-3.ensures.1

-- as many values as pins
as_many : (nets : Nets) (values made : List Bool) (pins ins : List NetId) → values ≡ made → made ≡ pin_values nets pins → pins ≡ ins → length values ≡ length ins
as_many nets values made pins ins same is of = ap length (same ∙ is) ∙ length-map pins (λ (x : NetId). nets x.0) ∙ ap length of

pub set-inner-requires : goal.set-inner-requires
set-inner-requires c =
    as_many _ _ _ _ c.joint.inside.driver.now.ins.items c.deref-2.ensures.0 c.pins_at.ensures c.deref.ensures.0 ∙ c.joint.invariant.driver

pub set-requires : goal.set-requires
set-requires c =
    as_many _ _ _ _ c.joint.inside.reader.now.ins.items c.deref-4.ensures.0 c.pins_with.ensures c.deref-3.ensures.0 ∙ c.joint.invariant.reader

pub returns : goal.returns
returns c =
    let g = c.joint.inside.driver.now in
    let h = c.joint.inside.reader.now in
    let nets : Nets = values_of c.args.assignment.now in
    let inner = c.set-inner.ensures ∙ ap (set_of g.kind) (c.deref-2.ensures.0 ∙ c.pins_at.ensures ∙ ap (pin_values nets) c.deref.ensures.0) in
    let pins = c.deref-4.ensures.0 ∙ c.pins_with.ensures ∙ (λ i. pin_values (with_net nets g.out.0 (inner i)) (c.deref-3.ensures.0 i)) in
    c.set.ensures ∙ ap (set_of h.kind) pins ∙ ap (λ (j : JointData). value_through j.driver j.reader nets) c.joint.view_is
