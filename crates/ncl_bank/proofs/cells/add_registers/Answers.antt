use Rattle.ncl_bank.proofs.Terms.{[], ap, arith, cell_at, length, length_push, register_with, zip_end, zip_turn, ◌∷◌}
use Rattle.ncl_bank.proofs.Zipped.{zip_starts, all_added, registers_of, registers_few, registers_more}
use Rattle.ncl_bank.proofs.cells.add_registers.Goals as goal

pub add_register-requires : goal.add_register-requires
add_register-requires c =
    let starts = zip_starts c.args.ins.now c.args.outs.now _ _ c.iter.result c.into_iter-from-iterator.ensures.into_iter_gives c.zip-from-items.ensures.first c.iter.ensures.rest c.zip-from-items.ensures.second.0 in
    let t = zip_turn c.args.ins.now c.args.outs.now c.loop-from.yielded c.into_iter-from-iterator.result c.loop-from.from-iterator c.next.new.self c.next.result starts.0 starts.1
    c.loop-from.yielded_by (c.in-Some.from, c.in-Some.to) c.in-Some.is c.next.ensures.steps in
    omega (arith, t.0, registers_few c.args.prefix.now c.args.cells.now.items c.loop-from.cells.items c.args.request.now c.args.rst.now c.args.ins.now c.args.outs.now (length c.loop-from.yielded) c.loop-from.invariant)

pub add_register-requires-in-loop-from : goal.add_register-requires-in-loop-from
add_register-requires-in-loop-from c =
    let starts = zip_starts c.args.ins.now c.args.outs.now _ _ c.iter.result c.into_iter-from-iterator.ensures.into_iter_gives c.zip-from-items.ensures.first c.iter.ensures.rest c.zip-from-items.ensures.second.0 in
    let t = zip_turn c.args.ins.now c.args.outs.now c.loop-from.yielded c.into_iter-from-iterator.result c.loop-from.from-iterator c.next.new.self c.next.result starts.0 starts.1
    c.loop-from.yielded_by (c.in-Some.from, c.in-Some.to) c.in-Some.is c.next.ensures.steps in
    omega (arith, t.0, ap length c.in_ok-add_register.ensures, length_push c.loop-from.cells.items (cell_at c.args.prefix.now (length c.loop-from.cells.items) (register_with (c.in-Some.from.now.zero ∷ c.args.request.now ∷ c.args.rst.now ∷ c.in-Some.to.now.zero ∷ []))), registers_few c.args.prefix.now c.args.cells.now.items c.loop-from.cells.items c.args.request.now c.args.rst.now c.args.ins.now c.args.outs.now (length c.loop-from.yielded) c.loop-from.invariant)

pub loop-from-preserved : goal.loop-from-preserved
loop-from-preserved c =
    let starts = zip_starts c.args.ins.now c.args.outs.now _ _ c.iter.result c.into_iter-from-iterator.ensures.into_iter_gives c.zip-from-items.ensures.first c.iter.ensures.rest c.zip-from-items.ensures.second.0 in
    let t = zip_turn c.args.ins.now c.args.outs.now c.loop-from.yielded c.into_iter-from-iterator.result c.loop-from.from-iterator c.next.new.self c.next.result starts.0 starts.1
    c.loop-from.yielded_by (c.in-Some.from, c.in-Some.to) c.in-Some.is c.next.ensures.steps in
    registers_more c.args.prefix.now c.args.cells.now.items c.loop-from.cells.items c.args.request.now c.args.rst.now c.args.ins.now c.args.outs.now (length c.loop-from.yielded) _ c.in-Some.from.now c.in-Some.to.now c.add_register.new.cells.items c.add_register-in-loop-from.new.cells.items
    c.loop-from.invariant t.0 t.1 (t.2 c.in-Some.from.now) (t.3 c.in-Some.to.now) (length_push c.loop-from.yielded (c.in-Some.from, c.in-Some.to)) c.in_ok-add_register.ensures c.in_ok-add_register-2.ensures

pub returns : goal.returns
returns c =
    let starts = zip_starts c.args.ins.now c.args.outs.now _ _ c.iter.result c.into_iter-from-iterator.ensures.into_iter_gives c.zip-from-items.ensures.first c.iter.ensures.rest c.zip-from-items.ensures.second.0 in
    let e = zip_end c.args.ins.now c.args.outs.now c.loop-from.yielded c.into_iter-from-iterator.result c.loop-from.from-iterator c.next.new.self c.next.result starts.0 starts.1
    c.loop-from.yielded_by c.in-None.is c.next.ensures.steps in
    all_added c.args.prefix.now c.args.cells.now.items c.loop-from.cells.items (registers_of c.args.request.now c.args.rst.now) c.args.ins.now c.args.outs.now _ c.loop-from.invariant e
