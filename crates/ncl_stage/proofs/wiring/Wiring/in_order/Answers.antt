use Rattle.ncl_stage.proofs.Terms.{ForSome, IsOrderOf, List, None, Option, Some, StageData, bit_order, length, refl, subst, sym, unwrap_or, ℕ}
use Rattle.ncl_stage.proofs.OrderedTables.{order-is}
use Rattle.ncl_stage.proofs.ReaderLists.{pins-within, few-pins, wired}
use Rattle.ncl_stage.proofs.wiring.Wiring.in_order.Goals as goal

-- the order that is given, or else the bit order, is one
order-given : (s : StageData) (given : Option (List ℕ)) → ForSome given (IsOrderOf (length s.inputs)) → IsOrderOf (length s.inputs) (unwrap_or given (bit_order s))
order-given s None is = order-is s
order-given s (Some order) is = is order refl

pub of_parts-requires-clause-within : goal.of_parts-requires-clause-within
of_parts-requires-clause-within c = pins-within c.args.stage.now c.facts.ensures c.in_ok-nets.nets.keys c.in_ok-nets.ensures _ c.in_ok-pins.ensures

pub of_parts-requires-clause-many : goal.of_parts-requires-clause-many
of_parts-requires-clause-many c = few-pins c.args.stage.now c.in_ok-nets.nets.keys c.in_ok-nets.ensures c.in_ok-pins.pins.items (λ p. p.items) c.in_ok-pins.ensures

pub returns-clause-wiring : goal.returns-clause-wiring
returns-clause-wiring c =
    wired c.args.stage.now c.of_parts.result _ c.of_parts.ensures (record {
      nets = c.in_ok-nets.ensures;
      pins = c.in_ok-pins.ensures;
      outputs = c.in_ok-outputs.ensures;
      order = subst (IsOrderOf (length c.args.stage.now.inputs)) (sym c.in_ok-order.ensures) (order-given c.args.stage.now c.args.order c.requires);
    })
