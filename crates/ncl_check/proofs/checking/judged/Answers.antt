use Rattle.ncl_check.proofs.Terms.{NamesCellOf, names_cell_of, subst, sym}
use Rattle.ncl_check.proofs.checking.judged.Goals as goal

pub verdict_text-requires : goal.verdict_text-requires
verdict_text-requires g c =
    let p = c.args.pipeline.now in
    subst (NamesCellOf p.netlist) (sym c.in_ok-verdict.ensures) (names_cell_of p.netlist p c.args.limit c.facts.ensures)
