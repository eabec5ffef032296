use Rattle.ncl_cell_rules.specs.Rules.{IsPaired}
use Rattle.ncl_cell_rules.proofs.TableSteps.{first_refused, one_cell_more}
use Rattle.ncl_cell_rules.proofs.pairing.first_unpaired.Goals as goal

pub returns-then-not-is_paired : goal.returns-then-not-is_paired
returns-then-not-is_paired c = first_refused c.args.netlist.now IsPaired _ c.cells-cell-items.ensures.cells _ c.loop-place.invariant _ c.loop-place-test.true c.cell-item.is _ c.if-not-is_paired.true c.is_paired.ensures.1

pub loop-place-preserved : goal.loop-place-preserved
loop-place-preserved c = one_cell_more c.args.netlist.now IsPaired _ c.cells-cell-items.ensures.cells _ c.loop-place.invariant _ c.loop-place-test.true c.cell-item.is (c.is_paired.ensures.0 c.if-not-is_paired.false)
