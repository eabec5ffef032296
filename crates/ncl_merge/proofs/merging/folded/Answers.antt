use Rattle.ncl_merge.proofs.Keeping.{AreFewer, HasNoFoldable, MatchOption, subst, sym, nothing-foldable, round-smaller}
use Rattle.ncl_merge.proofs.merging.folded.Goals as goal

pub returns-in_ok-folded-in-Some : goal.returns-in_ok-folded-in-Some
returns-in_ok-folded-in-Some c =
    let p = c.args.pipeline.now in
    let fewer = subst (λ found. MatchOption found (HasNoFoldable p) (λ lists. AreFewer p.stages lists.items)) c.in-Some.is c.in_ok-lists.ensures in
    round-smaller p.netlist c.in_ok-folded-in-Some.folded c.requires p c.facts.ensures c.deref.result.now (subst (AreFewer p.stages) (sym c.deref.ensures.value) fewer) c.cells-facts.ensures.netlist c.in_ok-folded-in-Some.ensures

pub returns-in-None : goal.returns-in-None
returns-in-None c =
    let p = c.args.pipeline.now in
    nothing-foldable p.netlist p c.facts.ensures (subst (λ found. MatchOption found (HasNoFoldable p) (λ lists. AreFewer p.stages lists.items)) c.in-None.is c.in_ok-lists.ensures)
