use Rattle.ncl_cell_rules.proofs.Terms.{NetId, ap, arith, false, get_or, list_any, or-false, sym, take_all, true, ◌||◌, ◌∙◌}
use Rattle.std.proofs.Math.ListN.{length-set}
use Rattle.ncl_cell_rules.proofs.ReadTables.{has_pin, marked_more}
use Rattle.ncl_cell_rules.proofs.reading.mark.Goals as goal

pub loop-net-init : goal.loop-net-init
loop-net-init c = λ net lt. sym (or-false (get_or c.args.flags.now net false))

pub loop-net-preserved : goal.loop-net-preserved
loop-net-preserved c = λ net lt.
    let zero : NetId = record { 0 = 0 } in
    let same = length-set c.loop-net.flags (get_or c.args.pins.now c.loop-net.net-index zero).0 true in
    marked_more c.loop-net.flags _ c.args.pins.now c.loop-net.net-index zero net c.loop-net-test.true (omega (arith, lt, same)) (c.loop-net.invariant net (omega (arith, lt, same)))

pub returns : goal.returns
returns c = λ net lt.
    c.loop-net.invariant net (omega arith)
    ∙ ap (λ pins. get_or c.args.flags.now net false || list_any (has_pin net) pins) (take_all c.loop-net.net-index c.args.pins.now c.loop-net-test.false)
