use Rattle.ncl_shape.proofs.Terms.{AllZip, CellAt, [], ap, arith, cell_read, length, map, replicate, requests_of, subst, sym, ◌+◌, ◌∙◌, ◌≡◌}
use Rattle.ncl_shape.proofs.ChainNumbers.{bank_number, one_place, as_many_requests, number_in}
use Rattle.ncl_shape.proofs.BitSteps.{AreBitsBelow, lists_begin, lists_more, lists_pass, lists_whole}
use Rattle.ncl_shape.proofs.bits.bits_of_banks.Goals as goal
use Rattle.ncl_shape.proofs.bits.bits_of_banks.Goals.{in-Ack+in_ok-put, in_default}

pub loop-place-init : goal.loop-place-init
loop-place-init c =
    let n = c.args.origins.now.netlist in
    let chain = c.args.chain.now in
    let count : length (requests_of chain) ≡ c.len.result = omega (arith, as_many_requests n chain c.requires.chain, c.len.ensures, chain.banks.ok.0) in
    subst (AllZip (AreBitsBelow n 0) (requests_of chain)) (ap (λ k. replicate k []) count ∙ sym c.in_ok-lists.ensures)
    (lists_begin n c.netlist-netlist.ensures.origins.drivers.netlist (requests_of chain) (one_place n chain c.requires.chain))

pub bit_of-requires-clause-at : goal.bit_of-requires-clause-at
bit_of-requires-clause-at c = cell_read c.netlist-netlist.result.now _ _ _ c.cells-cell-items.ensures.cells c.loop-place-test.true c.cell-item.is

pub number_of-requires : goal.number_of-requires
number_of-requires c =
    let bit = rw c.netlist-netlist.ensures.netlist at c.bit_of.ensures.bit in
    bank_number c.args.origins.now.netlist c.args.chain.now c.requires.chain c.bit_of.result.0.0 (bit.zero, bit.zero_of)

pub put-requires : goal.put-requires
put-requires c =
    number_in c.args.origins.now.netlist c.args.chain.now c.requires.chain (AreBitsBelow c.args.origins.now.netlist c.loop-place.place) c.loop-place.lists.items c.bit_of.result.0.0 c.number_of.result c.number_of.ensures c.loop-place.invariant

pub loop-place-preserved : goal.loop-place-preserved
loop-place-preserved c =
    let n = c.args.origins.now.netlist in
    let chain = c.args.chain.now in
    let is = c.netlist-netlist.ensures.origins.drivers.netlist in
    let k = c.loop-place.place in
    let places = one_place n chain c.requires.chain in
    let at : CellAt n k c.cell-item.result = cell_read n _ _ _ (rw c.netlist-netlist.ensures.netlist at c.cells-cell-items.ensures.cells) c.loop-place-test.true c.cell-item.is in
    let lists = map (λ v. v.items) c.loop-place.lists.items in
    elim c.match-cell.branch [
      | in-Ack+in_ok-put w ↦
          let grown = lists_more n is (requests_of chain) places k w.number_of.result w.bit_of.result.0.0 lists w.bit_of.result.1 c.loop-place.invariant
          (c.requires.chain.numbered w.bit_of.result.0.0 w.number_of.result w.number_of.ensures) (rw c.netlist-netlist.ensures.netlist at w.bit_of.ensures.bit) w.bit_of.ensures.place in
          subst (AllZip (AreBitsBelow n (k + 1)) (requests_of chain)) (sym w.in_ok-put.ensures ∙ ap (λ l. map (λ v. v.items) l.items) (sym w.lists-is)) grown
      | in_default w ↦
          subst (AllZip (AreBitsBelow n (k + 1)) (requests_of chain)) (ap (λ l. map (λ v. v.items) l.items) (sym w.lists-is))
          (lists_pass n is (requests_of chain) places k c.cell-item.result lists c.loop-place.invariant at w.in_default.not-Ack)
    ]

pub returns : goal.returns
returns c =
    let n = c.args.origins.now.netlist in
    let chain = c.args.chain.now in
    let all = ap length (rw c.netlist-netlist.ensures.netlist at c.cells-cell-items.ensures.cells) in
    lists_whole n c.netlist-netlist.ensures.origins.drivers.netlist (requests_of chain) (one_place n chain c.requires.chain) c.loop-place.place (map (λ v. v.items) c.loop-place.lists.items)
    (omega (arith, all, c.loop-place-test.false)) c.loop-place.invariant
