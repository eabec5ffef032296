use Rattle.ncl_shape.proofs.Terms.{AllZip, IsCellOrder, RailOf, [], ap, arith, bank_of_rail, cell_of_order, length, map, refl, replicate, requests_of, subst, sym, take, take_all, ◌+◌, ◌∙◌, ◌≡◌}
use Rattle.ncl_shape.proofs.ChainNumbers.{bank_number, one_place, as_many_requests, number_in}
use Rattle.ncl_shape.proofs.StageSteps.{AreGatesAmong, lists_begin, lists_put, lists_keep, lists_whole}
use Rattle.ncl_shape.proofs.stage_cells.gates_of_banks.Goals as goal
use Rattle.ncl_shape.proofs.stage_cells.gates_of_banks.Goals.{in-Some+in_ok-gate+in_ok-put, in_default}

pub loop-place-init : goal.loop-place-init
loop-place-init c =
    let n = c.args.origins.now.netlist in
    let chain = c.args.chain.now in
    let count : length (requests_of chain) ≡ c.len.result = omega (arith, as_many_requests n chain c.requires.chain, c.len.ensures, chain.banks.ok.0) in
    subst (AllZip (AreGatesAmong n []) (requests_of chain)) (ap (λ k. replicate k []) count ∙ sym c.in_ok-lists.ensures)
    (lists_begin n c.netlist.ensures.origins.drivers.netlist c.requires.free (requests_of chain) (one_place n chain c.requires.chain))

pub number_of-requires : goal.number_of-requires
number_of-requires c =
    let from = c.in-Some.ensures.reads in
    bank_number c.args.origins.now.netlist c.args.chain.now c.requires.chain c.in-Some.bank.0 (bank_of_rail c.args.origins.now.netlist _ (RailOf c.in-Some.bank.0) c.in-Some.bank.0 refl from)

pub put-requires : goal.put-requires
put-requires c =
    number_in c.args.origins.now.netlist c.args.chain.now c.requires.chain (AreGatesAmong c.args.origins.now.netlist (take c.loop-place.place-index c.order-place-items.result.now)) c.loop-place.lists.items c.in-Some.bank.0 c.number_of.result c.number_of.ensures c.loop-place.invariant

ordered : (c : goal.Joined-gate_of_bank) → IsCellOrder c.args.origins.now.netlist c.order-place-items.result.now
ordered c = subst (IsCellOrder c.args.origins.now.netlist) (sym c.order-place-items.ensures.order) c.netlist.ensures.origins.order

pub loop-place-preserved : goal.loop-place-preserved
loop-place-preserved c =
    let n = c.args.origins.now.netlist in
    let chain = c.args.chain.now in
    let is = c.netlist.ensures.origins.drivers.netlist in
    let free = c.requires.free in
    let k = c.loop-place.place-index in
    let order = c.order-place-items.result.now in
    let cell = c.index-cells-place.result in
    let places = one_place n chain c.requires.chain in
    let lists = map (λ v. v.items) c.loop-place.lists.items in
    let at = cell_of_order n order (ordered c) k c.loop-place-test.true c.cells-cells.result.now cell (rw c.netlist.ensures.netlist at c.cells-cells.ensures.cells) c.index-cells-place.is in
    elim c.match-gate_of_bank.branch [
      | in-Some+in_ok-gate+in_ok-put w ↦
          let grown = lists_put n is free (requests_of chain) places order (ordered c) k c.loop-place-test.true cell at w.number_of.result w.in-Some.bank.0 w.in-Some.kind lists w.in_ok-gate.gate
          c.loop-place.invariant (c.requires.chain.numbered w.in-Some.bank.0 w.number_of.result w.number_of.ensures) w.in-Some.ensures.gate w.in-Some.ensures.reads
          w.in_ok-gate.ensures.place w.in_ok-gate.ensures.kind w.in_ok-gate.ensures.ins w.in_ok-gate.ensures.out in
          subst (AllZip (AreGatesAmong n (take (k + 1) order)) (requests_of chain)) (sym w.in_ok-put.ensures ∙ ap (λ l. map (λ v. v.items) l.items) (sym w.lists-is)) grown
      | in_default w ↦
          subst (AllZip (AreGatesAmong n (take (k + 1) order)) (requests_of chain)) (ap (λ l. map (λ v. v.items) l.items) (sym w.lists-is))
          (lists_keep n is free (requests_of chain) places order k c.loop-place-test.true cell at lists c.loop-place.invariant w.in_default.ensures.none)
    ]

pub returns : goal.returns
returns c =
    let n = c.args.origins.now.netlist in
    let chain = c.args.chain.now in
    let whole = take_all c.loop-place.place-index c.order-place-items.result.now c.loop-place-test.false in
    lists_whole n c.netlist.ensures.origins.drivers.netlist c.requires.free (requests_of chain) (one_place n chain c.requires.chain) c.args.origins.now.order (map (λ v. v.items) c.loop-place.lists.items) c.netlist.ensures.origins.order
    (subst (λ places. AllZip (AreGatesAmong n places) (requests_of chain) (map (λ v. v.items) c.loop-place.lists.items)) (whole ∙ c.order-place-items.ensures.order) c.loop-place.invariant)
