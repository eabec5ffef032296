use Rattle.ncl_decomp.proofs.Terms.{AddsNode, AddsSum, All, IsFilled, List, Lit, Node, [], ap, arith, length, literals_of, map, node_signal, subst, sym, total, ◌++◌, ◌+◌, ◌<◌, ◌^◌, ◌∙◌, ◌∷◌, ◌≡◌}
use Rattle.ncl_decomp.proofs.Sums.{AddsSum-then}
use Rattle.ncl_decomp.proofs.Parts.{AddsNode-kept, AddsNode-sum, sum_signal, rows_room, rows_count, rows_filled, sum_room}
use Rattle.ncl_decomp.proofs.wide.split_node.Goals as goal
use Rattle.ncl_decomp.proofs.wide.split_node.Goals.{then-node, else-node}

pub returns-then-len-le4 : goal.returns-then-len-le4
returns-then-len-le4 c =
    let kept : Node = record { ins = c.from_vec.result; on = c.args.node.now.on; rows = c.in_ok-rows.rows } in
    let same : ◌≡◌ {A = Node} kept (record { ins = c.args.ins.items; on = c.args.node.now.on; rows = c.args.node.now.rows }) =
    λ i. record { ins = c.from_vec.ensures i; on = c.args.node.now.on; rows = (c.in_ok-rows.ensures ∙ c.items.ensures) i } in
    let pushed : c.push.new.self.items ≡ c.args.nodes.now.items ++ kept ∷ [] = c.in_ok-push.ensures.items in
    let place : c.len-then-len-le4.result ≡ length c.args.nodes.now.items = omega arith in
    subst (AddsNode c.args.ins.items c.args.node.now c.args.nodes.now.items c.push.new.self.items) (ap node_signal (sym place))
    (AddsNode-kept c.args.ins.items c.args.node.now kept c.args.nodes.now.items c.push.new.self.items c.requires.node c.requires.inputs (omega arith) same pushed)

pub factored-requires : goal.factored-requires
factored-requires c =
    let is : c.in_ok-given.given.items ≡ map (literals_of c.args.ins.items) c.args.node.now.rows = c.in_ok-given.ensures ∙ (λ i. map (literals_of (c.deref.ensures.value i)) (c.items-2.ensures i)) in
    record { few = subst (λ sum. length c.args.nodes.now.items + total sum < 2 ^ 32) (sym is) (rows_room c.args.ins.items c.args.node.now.rows c.args.nodes.now.items c.requires.few) }

pub summed-requires : goal.summed-requires
summed-requires c =
    let is : c.in_ok-given.given.items ≡ map (literals_of c.args.ins.items) c.args.node.now.rows = c.in_ok-given.ensures ∙ (λ i. map (literals_of (c.deref.ensures.value i)) (c.items-2.ensures i)) in
    let some : 0 < length c.in_ok-given.given.items = omega (arith, ap length is, rows_count c.args.ins.items c.args.node.now.rows, c.requires.node.some_row) in
    let widths : All (λ row. length row ≡ length c.args.ins.items) c.args.node.now.rows = subst (λ n. All (λ (row : List Lit). length row ≡ n) c.args.node.now.rows) (sym c.requires.inputs) c.requires.node.row_widths in
    let filled : All IsFilled c.in_ok-given.given.items = subst (All IsFilled) (sym is) (rows_filled c.args.ins.items c.args.node.now.rows widths c.requires.node.no_idle_row) in
    record {
      some = subst (λ sum. 0 < length sum) (sym c.deref-2.ensures.value) (c.in_ok-factors.ensures.some some);
      filled = subst (All IsFilled) (sym c.deref-2.ensures.value) (c.in_ok-factors.ensures.filled filled);
      few = omega (arith, ap total c.deref-2.ensures.value, ap total is, sum_room c.in_ok-given.given.items c.in_ok-factors.factors.items c.args.nodes.now.items c.factored.new.nodes.items c.in_ok-factors.ensures, rows_room c.args.ins.items c.args.node.now.rows c.args.nodes.now.items c.requires.few);
    }

pub returns : goal.returns
returns c =
    let is : c.in_ok-given.given.items ≡ map (literals_of c.args.ins.items) c.args.node.now.rows = c.in_ok-given.ensures ∙ (λ i. map (literals_of (c.deref.ensures.value i)) (c.items-2.ensures i)) in
    let adds : AddsNode c.args.ins.items c.args.node.now c.args.nodes.now.items c.summed.new.nodes.items (sum_signal c.args.node.now.on c.in_ok-signal.signal) =
    AddsNode-sum c.args.ins.items c.args.node.now c.args.nodes.now.items c.summed.new.nodes.items c.in_ok-signal.signal c.requires.node.some_row
    (AddsSum-then (map (literals_of c.args.ins.items) c.args.node.now.rows) c.in_ok-factors.factors.items ((c.in_ok-signal.signal ∷ []) ∷ []) c.args.nodes.now.items c.factored.new.nodes.items c.summed.new.nodes.items
    (subst (λ sum. AddsSum sum c.args.nodes.now.items c.factored.new.nodes.items c.in_ok-factors.factors.items) is c.in_ok-factors.ensures)
    (subst (λ sum. AddsSum sum c.factored.new.nodes.items c.summed.new.nodes.items ((c.in_ok-signal.signal ∷ []) ∷ [])) c.deref-2.ensures.value c.in_ok-signal.ensures)) in
    elim c.if-node.branch [
      | then-node w ↦
          subst (AddsNode c.args.ins.items c.args.node.now c.args.nodes.now.items c.summed.new.nodes.items) (ap (λ on. sum_signal on c.in_ok-signal.signal) w.if-node.true ∙ sym w.result-is) adds
      | else-node w ↦
          subst (AddsNode c.args.ins.items c.args.node.now c.args.nodes.now.items c.summed.new.nodes.items) (ap (λ on. sum_signal on c.in_ok-signal.signal) w.if-node.false ∙ sym w.turned.ensures ∙ sym w.result-is) adds
    ]
