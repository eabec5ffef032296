use Rattle.ncl_cell_rules.proofs.Terms.{B, Cell, CellAt, Contains-from_slice_get, IsNetlist, IsRegister, List, NetId, NetlistData, None, OnPin, Option, Some, ap, arith, get_or, get_or_read, length, option_or, set, subst, sym, ℕ, ◌+◌, ◌<◌, ◌∙◌, ◌≡◌}
use Rattle.ncl_cell_rules.proofs.TableSteps.{cell_read}
use Rattle.ncl_cell_rules.proofs.PinNumbers.{no_net, register_on, register_inside}
use Rattle.ncl_cell_rules.proofs.FirstRegisters.{AreFirstsOf, firsts_same, firsts_whole, firsts_put, other_sort, bank_of_pin, is_of_own_bank}
use Rattle.ncl_cell_rules.proofs.first_registers.first_registers.Goals as goal
use Rattle.ncl_cell_rules.proofs.first_registers.first_registers.Goals.{then-is_register, else-is_register}

cell_at : (c : goal.Joined-is_register) → CellAt c.args.netlist.now c.loop-place.place c.cell-item.result
cell_at c = cell_read c.args.netlist.now _ _ _ c.cells-cell-items.ensures.cells c.loop-place-test.true c.cell-item.is

pub loop-place-preserved : goal.loop-place-preserved
loop-place-preserved c =
    let n = c.args.netlist.now in
    let k = c.loop-place.place in
    let cell = c.cell-item.result in
    let at = cell_at c in
    let in_c = Contains-from_slice_get n.cells k cell at in
    let is = c.cells-cell-items.ensures.netlist in
    let old = c.loop-place.firsts in
    let inv = c.loop-place.invariant in
    elim c.if-is_register.branch [
      | then-is_register w ↦
          let request = (get_or w.deref.result.now 1 no_net).0 in
          let register = sym c.is_register.ensures ∙ w.if-is_register.true in
          let on : OnPin cell B request = register_on n is cell in_c 1 w.deref.result.now w.deref.ensures.0 register (omega arith) in
          let inside = register_inside n is cell in_c 1 w.deref.result.now w.deref.ensures.0 register (omega arith) in
          let sized = inv.sized in
          let read = get_or_read old.items request w.index.result.now (omega (arith, inside, sized)) w.index.ensures None in
          let now : w.or.result ≡ option_or (get_or old.items request None) (Some k) = w.or.ensures ∙ ap (λ o. option_or o (Some k)) read in
          subst (λ v. AreFirstsOf n (k + 1) v.items) (sym w.firsts-is)
          (subst (λ o. AreFirstsOf n (k + 1) (set old.items request o)) (sym now)
          (firsts_put n k cell request old.items inv at inside (λ net. bank_of_pin cell _ net on) (is_of_own_bank cell _ register on)))
      | else-is_register w ↦
          subst (λ v. AreFirstsOf n (k + 1) v.items) (sym w.firsts-is)
          (firsts_same n k cell old.items inv at (λ net lt passes. absurd (other_sort cell (sym c.is_register.ensures ∙ w.if-is_register.false) net passes)))
    ]

inside : (n : NetlistData) → IsNetlist n → (cells : List Cell) (k : ℕ) (cell : Cell) → cells ≡ n.cells → k < length cells → cell ≡ get_or cells k cell → IsRegister cell → (pins : List NetId) → pins ≡ cell.ins.items
    → (firsts : List (Option ℕ)) → AreFirstsOf n k firsts → (size : ℕ) → size ≡ length firsts → (get_or pins 1 no_net).0 < size
inside n is cells k cell same lt read register pins are firsts so_far size is_size =
    let in_c = Contains-from_slice_get n.cells k cell (cell_read n cells k cell same lt read) in
    let within = register_inside n is cell in_c 1 pins are register (omega arith) in
    let sized = so_far.sized in
    omega (arith, within, sized, is_size)

pub index-requires : goal.index-requires
index-requires c = inside _ c.cells-cell-items.ensures.netlist _ _ _ c.cells-cell-items.ensures.cells c.loop-place-test.true c.cell-item.is (sym c.is_register.ensures ∙ c.if-is_register.true) _ c.deref.ensures.0 _ c.loop-place.invariant _ c.loop-place.firsts.ok.0

pub index_mut-requires : goal.index_mut-requires
index_mut-requires c = inside _ c.cells-cell-items.ensures.netlist _ _ _ c.cells-cell-items.ensures.cells c.loop-place-test.true c.cell-item.is (sym c.is_register.ensures ∙ c.if-is_register.true) _ c.deref.ensures.0 _ c.loop-place.invariant _ c.loop-place.firsts.ok.0

pub returns : goal.returns
returns c =
    let all = ap length c.cells-cell-items.ensures.cells in
    firsts_whole c.args.netlist.now c.loop-place.place c.loop-place.firsts.items (omega (arith, all, c.loop-place-test.false)) c.loop-place.invariant
