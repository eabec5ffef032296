use Rattle.ncl_cell_rules.proofs.Terms.{false≢true, Cell, Contains-from_slice_get, ap, is_data_register, slice_get-from_Contains, sym, ◌∙◌}
use Rattle.ncl_cell_rules.proofs.Drivers.{same_driver}
use Rattle.ncl_cell_rules.proofs.TableSteps.{driver_within, driver_is, not_both}
use Rattle.ncl_cell_rules.proofs.pairing.is_data_behind.Goals as goal

pub returns-in_default : goal.returns-in_default
returns-in_default c = (
  (λ never. absurd (false≢true never)),
  λ behind.
      let (place, at) = slice_get-from_Contains c.args.netlist.now.cells behind.cell behind.is_cell in
      absurd (not_both _ place (c.requires.drivers.driven c.args.net.0 place (behind.cell, at, behind.out)) c.in_default.is),
)

pub bounds-cells-place : goal.bounds-cells-place
bounds-cells-place c = driver_within c.args.netlist.now c.args.drivers.now c.requires.drivers c.args.net.0 c.in-Some.place c.cells.result.now c.cells.ensures.cells c.in-Some.is

pub returns : goal.returns
returns c =
    let n = c.args.netlist.now in
    let (at, out) = driver_is n c.args.drivers.now c.requires.drivers c.args.net.0 c.in-Some.place c.cells.result.now c.index-cells-place.result c.cells.ensures.cells c.in-Some.is c.index-cells-place.is in
    let in_c = Contains-from_slice_get n.cells _ _ at in (
      (λ holds. record {
        cell = c.index-cells-place.result;
        is_cell = in_c;
        out = out;
        resets_high = sym c.is_data_register.ensures ∙ holds;
      }),
      λ behind.
          c.is_data_register.ensures
          ∙ ap (λ (x : Cell). is_data_register x.kind) (same_driver n c.requires.drivers.netlist c.index-cells-place.result behind.cell in_c behind.is_cell (out ∙ sym behind.out))
          ∙ behind.resets_high,
    )
