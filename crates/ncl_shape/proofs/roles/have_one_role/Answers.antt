use Rattle.ncl_shape.proofs.Terms.{HasOneRole, IsInputPort, IsNetlist, List, NetlistData, ap, arith, below_more, both_ways, length, port_read, ports-le-nets, refl, ℕ, ◌<◌, ◌∙◌, ◌≡◌}
use Rattle.ncl_netlist.specs.declared.port.Port.{Port}
use Rattle.ncl_shape.proofs.PortRoles.{role_of_counts, no_input, ports_passed}
use Rattle.ncl_shape.proofs.roles.have_one_role.Goals as goal
use Rattle.ncl_shape.proofs.roles.have_one_role.Goals.{else-not-port-via-then-not-port+else-not-is_one_role, else-not-port-via-else-not-port}

pub returns-then-not-is_one_role : goal.returns-then-not-is_one_role
returns-then-not-is_one_role c = (
  (λ never. absurd cc),
  λ roles.
      let n = c.args.netlist.now in
      let net = c.loop-net.net in
      let at = port_read n c.ports-port-items.result.now net c.port-item.result c.ports-port-items.ensures.ports c.loop-net-test.true c.port-item.is in
      let input : IsInputPort n net = (c.port-item.result, at, c.if-not-port.true) in
      let tells = role_of_counts n c.ports-port-items.ensures.netlist c.requires net input c.in_ok-a.a.items c.in_ok-b.b.items c.in_ok-rst.rst.items c.in_ok-a.ensures c.in_ok-b.ensures c.in_ok-rst.ensures _ _ _ c.index.ensures c.index-then-not-port.ensures c.index-then-not-port-2.ensures in
      absurd (both_ways c.is_one_role.result c.if-not-is_one_role.true (c.is_one_role.ensures.1 (tells.1 (roles net input)))),
)

pub loop-net-preserved : goal.loop-net-preserved
loop-net-preserved c =
    let n = c.args.netlist.now in
    let net = c.loop-net.net in
    let at = port_read n c.ports-port-items.result.now net c.port-item.result c.ports-port-items.ensures.ports c.loop-net-test.true c.port-item.is in
    below_more (λ net. IsInputPort n net → HasOneRole n net) net c.loop-net.invariant
    (elim c.else-not-port.branch [
      | else-not-port-via-then-not-port+else-not-is_one_role w ↦
          λ input.
          let tells = role_of_counts n c.ports-port-items.ensures.netlist c.requires net input c.in_ok-a.a.items c.in_ok-b.b.items c.in_ok-rst.rst.items c.in_ok-a.ensures c.in_ok-b.ensures c.in_ok-rst.ensures _ _ _ w.index.ensures w.index-then-not-port.ensures w.index-then-not-port-2.ensures in
          tells.0 (w.is_one_role.ensures.0 w.if-not-is_one_role.false)
      | else-not-port-via-else-not-port w ↦ λ input. absurd (no_input n net c.port-item.result at w.if-not-port.false input)
    ])

pub returns : goal.returns
returns c = (
  (λ holds net input. c.loop-net.invariant net (ports_passed c.args.netlist.now _ c.ports-port-items.ensures.ports _ c.loop-net-test.false net input.0 input.1) input),
  λ roles. refl,
)

-- a place among the ports is within a table with an entry for each net
within : (n : NetlistData) → IsNetlist n → (ports : List Port) (net size : ℕ) → ports ≡ n.ports → net < length ports → size ≡ length n.nets → net < size
within n is ports net size same lt sized = omega (arith, ap length same, lt, ports-le-nets n is, sized)

pub index-requires : goal.index-requires
index-requires c = within c.args.netlist.now c.ports-port-items.ensures.netlist _ c.loop-net.net _ c.ports-port-items.ensures.ports c.loop-net-test.true (c.in_ok-a.a.ok.0 ∙ c.in_ok-a.ensures.sized)

pub index-requires-then-not-port : goal.index-requires-then-not-port
index-requires-then-not-port c = within c.args.netlist.now c.ports-port-items.ensures.netlist _ c.loop-net.net _ c.ports-port-items.ensures.ports c.loop-net-test.true (c.in_ok-b.b.ok.0 ∙ c.in_ok-b.ensures.sized)

pub index-requires-then-not-port-2 : goal.index-requires-then-not-port-2
index-requires-then-not-port-2 c = within c.args.netlist.now c.ports-port-items.ensures.netlist _ c.loop-net.net _ c.ports-port-items.ensures.ports c.loop-net-test.true (c.in_ok-rst.rst.ok.0 ∙ c.in_ok-rst.ensures.sized)
