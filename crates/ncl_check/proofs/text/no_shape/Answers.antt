use Rattle.ncl_check.proofs.Terms.{IsShapeless, names_place_of, shape_line, subst, sym, ◌≡◌}
use Rattle.ncl_check.proofs.Refusing.{shape_told, TellsLine-weaker}
use Rattle.ncl_check.proofs.text.no_shape.Goals as goal

pub shape_text-requires : goal.shape_text-requires
shape_text-requires c = names_place_of c.args.netlist.now c.args.fault c.cells.ensures.netlist c.requires

pub returns-in_default : goal.returns-in_default
returns-in_default c =
    let n = c.args.netlist.now in
    let line = shape_line n c.args.fault in
    TellsLine-weaker (λ text. text ≡ line) (IsShapeless n) (λ text is. subst (IsShapeless n) (sym is) (shape_told n c.cells.ensures.netlist c.args.fault c.in_default.not-Memory c.requires))
    c.of.result (c.of.ensures line c.shape_text.ensures)
