use Rattle.ncl_cell_rules.proofs.Terms.{IsUnmixed, arith}
use Rattle.ncl_cell_rules.proofs.TableSteps.{after_last, first_refused, one_cell_more, place_fits, read_is_cell}
use Rattle.ncl_cell_rules.proofs.mixing.first_mixed.Goals as goal

pub returns-then-not-is_unmixed : goal.returns-then-not-is_unmixed
returns-then-not-is_unmixed c = first_refused c.args.origins.now.netlist IsUnmixed _ (rw c.netlist.ensures.netlist at c.cells-cell-items.ensures.cells) _ c.loop-place.invariant _ c.loop-place-test.true c.cell-item.is _ c.if-not-is_unmixed.true c.is_unmixed.ensures.1

pub loop-place-preserved : goal.loop-place-preserved
loop-place-preserved c = one_cell_more c.args.origins.now.netlist IsUnmixed _ (rw c.netlist.ensures.netlist at c.cells-cell-items.ensures.cells) _ c.loop-place.invariant _ c.loop-place-test.true c.cell-item.is (c.is_unmixed.ensures.0 c.if-not-is_unmixed.false)

pub loop-place-init : goal.loop-place-init
loop-place-init c = λ j lt. absurd (omega (arith, lt))

pub is_unmixed-requires : goal.is_unmixed-requires
is_unmixed-requires c =
    record { in_netlist = read_is_cell c.args.origins.now.netlist _ _ _ (rw c.netlist.ensures.netlist at c.cells-cell-items.ensures.cells) c.loop-place-test.true c.cell-item.is }

pub overflow_cast-result : goal.overflow_cast-result
overflow_cast-result c = omega (arith, place_fits _ c.cells-cell-items.ensures.netlist _ _ c.cells-cell-items.ensures.cells c.loop-place-test.true)

pub returns : goal.returns
returns c = after_last c.args.origins.now.netlist IsUnmixed _ (rw c.netlist.ensures.netlist at c.cells-cell-items.ensures.cells) _ c.loop-place.invariant c.loop-place-test.false
