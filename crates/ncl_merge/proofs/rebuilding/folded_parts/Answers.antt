use Rattle.ncl_merge.proofs.Choices.{All, HaveGates, IsTable, NetId, NetlistData, StageCell, all_of, ap, choice_by, choice_of, false, is_stage_net, kept, length, map, part_of, subst, sym, ◌<◌, ◌∙◌, ◌≡◌, all-inside, all-once, gate-pins, kept-by-tables}
use Rattle.ncl_merge.proofs.rebuilding.folded_parts.Goals as goal

pub gates_by_net-requires-clause-inside : goal.gates_by_net-requires-clause-inside
gates_by_net-requires-clause-inside c =
    let p = c.args.pipeline.now in
    let same = ap length c.nets.ensures.nets ∙ ap (λ (n : NetlistData). length n.nets) c.netlist-netlist.ensures.netlist in
    subst (λ size. All (λ (g : StageCell). g.out.0 < size) (all_of c.args.lists.now)) (sym same) (all-inside p c.netlist-netlist.ensures.shape c.args.lists.now c.requires)

pub gates_by_net-requires-clause-once : goal.gates_by_net-requires-clause-once
gates_by_net-requires-clause-once c = all-once c.args.pipeline.now c.netlist-netlist.ensures.shape c.args.lists.now c.requires

pub kept_cells-requires-clause-pins : goal.kept_cells-requires-clause-pins
kept_cells-requires-clause-pins c = λ net g at.
    let lists = c.args.lists.now in
    let have = subst (λ xs. HaveGates xs (all_of lists)) (sym c.deref.ensures.value) c.in_ok-gates.ensures.gates in
    subst (λ (n : NetlistData). All (λ (x : NetId). x.0 < length n.nets) g.ins.items) (sym c.netlist-netlist.ensures.netlist)
    (gate-pins c.args.pipeline.now c.netlist-netlist.ensures.shape lists c.requires c.deref.result.now have net g at)

pub returns : goal.returns
returns c =
    let p = c.args.pipeline.now in
    let lists = c.args.lists.now in
    let same = c.netlist-netlist.ensures.netlist in
    let have = subst (λ xs. HaveGates xs (all_of lists)) (sym c.deref.ensures.value) c.in_ok-gates.ensures.gates in
    let sized : length c.deref.result.now ≡ length p.netlist.nets = ap length c.deref.ensures.value ∙ c.in_ok-gates.ensures.sized ∙ ap length c.nets.ensures.nets ∙ ap (λ (n : NetlistData). length n.nets) same in
    let table = subst (IsTable p.netlist false (λ net. is_stage_net net p.stages)) (sym c.deref-2.ensures.value) c.in_ok-staged.ensures in
    let kept-are = kept-by-tables p c.netlist-netlist.ensures.shape lists c.requires c.deref.result.now c.deref-2.result.now sized have table in
    let cells : c.from_vec-2.result ≡ map (part_of p.netlist.nets) (kept (choice_of p lists) p.netlist.cells) =
    c.from_vec-2.ensures ∙ c.in_ok-cells.ensures ∙ ap (λ (n : NetlistData). map (part_of n.nets) (kept (choice_by c.deref.result.now c.deref-2.result.now) n.cells)) same ∙ ap (map (part_of p.netlist.nets)) kept-are in
    let ports : c.from_vec.result ≡ p.netlist.ports = c.from_vec.ensures ∙ c.in_ok-ports.ensures ∙ c.ports.ensures.ports ∙ ap (λ (n : NetlistData). n.ports) same in
    let title : c.in_ok-copied_name.field-0 ≡ p.netlist.name = c.in_ok-copied_name.ensures ∙ c.module.ensures ∙ ap (λ (n : NetlistData). n.name) same in
    λ i. record { «module» = title i; ports = ports i; cells = cells i }
