use Rattle.ncl_bank.proofs.Terms.{Ack, [], ack_of, arith, cell_at, length, length_push, map, zip_end, zip_turn, ◌++◌, ◌∙◌, ◌∷◌, ◌≡◌}
use Rattle.ncl_bank.proofs.Zipped.{zip_starts, all_added, acks_few, acks_more}
use Rattle.ncl_bank.proofs.cells.add_acks.Goals as goal

pub add_cell-requires : goal.add_cell-requires
add_cell-requires c =
    let starts = zip_starts c.args.pairs.now c.args.nets.now _ _ c.iter.result c.into_iter-pair-iterator.ensures.into_iter_gives c.zip-pair-items.ensures.first c.iter.ensures.rest c.zip-pair-items.ensures.second.0 in
    let t = zip_turn c.args.pairs.now c.args.nets.now c.loop-pair.yielded c.into_iter-pair-iterator.result c.loop-pair.pair-iterator c.next.new.self c.next.result starts.0 starts.1
    c.loop-pair.yielded_by (c.in-Some.pair, c.in-Some.net) c.in-Some.is c.next.ensures.steps in
    omega (arith, t.0, acks_few c.args.prefix.now c.args.cells.now.items c.loop-pair.cells.items c.args.pairs.now c.args.nets.now (length c.loop-pair.yielded) c.loop-pair.invariant)

pub loop-pair-preserved : goal.loop-pair-preserved
loop-pair-preserved c =
    let starts = zip_starts c.args.pairs.now c.args.nets.now _ _ c.iter.result c.into_iter-pair-iterator.ensures.into_iter_gives c.zip-pair-items.ensures.first c.iter.ensures.rest c.zip-pair-items.ensures.second.0 in
    let t = zip_turn c.args.pairs.now c.args.nets.now c.loop-pair.yielded c.into_iter-pair-iterator.result c.loop-pair.pair-iterator c.next.new.self c.next.result starts.0 starts.1
    c.loop-pair.yielded_by (c.in-Some.pair, c.in-Some.net) c.in-Some.is c.next.ensures.steps in
    let pins : c.in_ok-pins.pins.items ≡ c.in-Some.pair.now.zero ∷ c.in-Some.pair.now.one ∷ c.in-Some.net.now ∷ [] =
    c.in_ok-pins.ensures.items ∙ (λ i. c.in_ok-copied.ensures i ∷ c.in_ok-copied-2.ensures i ∷ c.in_ok-copied-3.ensures i ∷ []) in
    let pushed : c.add_cell.new.cells.items ≡ c.loop-pair.cells.items ++ cell_at c.args.prefix.now (length c.loop-pair.cells.items) (ack_of (c.in-Some.pair.now, c.in-Some.net.now)) ∷ [] =
    c.in_ok-add_cell.ensures ∙ (λ i. c.loop-pair.cells.items ++ cell_at c.args.prefix.now (length c.loop-pair.cells.items) (record { kind = Ack; pins = pins i }) ∷ []) in
    acks_more c.args.prefix.now c.args.cells.now.items c.loop-pair.cells.items c.args.pairs.now c.args.nets.now (length c.loop-pair.yielded) _ c.in-Some.pair.now c.in-Some.net.now c.add_cell.new.cells.items
    c.loop-pair.invariant t.0 t.1 (t.2 c.in-Some.pair.now) (t.3 c.in-Some.net.now) (length_push c.loop-pair.yielded (c.in-Some.pair, c.in-Some.net)) pushed

pub returns : goal.returns
returns c =
    let starts = zip_starts c.args.pairs.now c.args.nets.now _ _ c.iter.result c.into_iter-pair-iterator.ensures.into_iter_gives c.zip-pair-items.ensures.first c.iter.ensures.rest c.zip-pair-items.ensures.second.0 in
    let e = zip_end c.args.pairs.now c.args.nets.now c.loop-pair.yielded c.into_iter-pair-iterator.result c.loop-pair.pair-iterator c.next.new.self c.next.result starts.0 starts.1
    c.loop-pair.yielded_by c.in-None.is c.next.ensures.steps in
    all_added c.args.prefix.now c.args.cells.now.items c.loop-pair.cells.items (map ack_of) c.args.pairs.now c.args.nets.now _ c.loop-pair.invariant e
