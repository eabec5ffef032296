use Rattle.ncl_netlist.proofs.Terms.{Bool, ap, arith, cases_lt, drives, false, get_or, get_or_past, if◌then◌else◌, inl, inr, length, length-map, map, map_push, not, refl, sym, take_all, true, ◌∙◌, ◌≡◌}
use mir.Val.{bool_byte}
use Rattle.ncl_netlist.proofs.drivers.count_ports.Goals as goal

pub loop-port-init : goal.loop-port-init
loop-port-init c = c.in_ok-counts.ensures.items

one : (b : Bool) → bool_byte (not b) ≡ (if b then 0 else 1)
one true = refl
one false = refl

pub loop-port-preserved : goal.loop-port-preserved
loop-port-preserved c =
    map_push drives c.args.ports.now c.loop-port.port-index c.port-item.result c.loop-port.counts.items c.push.new.self.items c.from.result c.loop-port-test.true c.loop-port.invariant
    (c.from.ensures ∙ one c.port-item.result.output ∙ ap drives c.port-item.is) c.in_ok-push.ensures.items

pub returns-clause-counts : goal.returns-clause-counts
returns-clause-counts c = λ net.
    let ports = map drives c.args.ports.now in
    let all = c.loop-port.invariant ∙ ap (map drives) (take_all c.loop-port.port-index c.args.ports.now c.loop-port-test.false) in
    let many = ap length all ∙ length-map c.args.ports.now drives in
    let long = c.loop-port.counts.ok.0 in
    elim (cases_lt net (length c.args.ports.now)) [
      | inl port ↦ c.in_ok-resize.ensures.by_index.0 net 0 (omega (arith, port, c.requires)) (omega (arith, port, many, long)) ∙ ap (λ counts. get_or counts net 0) all
      | inr other ↦
          let none = get_or_past ports net 0 (omega (arith, other, length-map c.args.ports.now drives)) in
          elim (cases_lt net c.args.nets) [
            | inl inside ↦ c.in_ok-resize.ensures.by_index.1 net 0 refl (omega (arith, other, many, long)) inside ∙ sym none
            | inr past ↦ get_or_past c.resize.new.self.items net 0 (omega (arith, past, c.in_ok-resize.ensures.len, c.resize.new.self.ok.0)) ∙ sym none
          ]
    ]
