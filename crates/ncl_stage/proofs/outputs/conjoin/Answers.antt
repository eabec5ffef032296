use Rattle.ncl_stage.proofs.Terms.{Makes, SpaceData, conjunction, makes-live, option_map, refl, subst, sym}
use Rattle.ncl_stage.proofs.outputs.conjoin.Goals as goal

pub returns-in-None-clause-made : goal.returns-in-None-clause-made
returns-in-None-clause-made g c =
    let old : SpaceData = g.P.Space.meaning c.args.space.now in
    let next = c.args.next in
    subst (λ front. Makes old old next (conjunction old.width (option_map old.table front) (old.table next))) (sym c.in-None.is)
    (makes-live old next (old.table next) c.facts.ensures c.requires.next refl)
