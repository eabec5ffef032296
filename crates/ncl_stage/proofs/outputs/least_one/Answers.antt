use Rattle.ncl_stage.proofs.Terms.{SpaceData, true, ◌∙◌}
use Rattle.ncl_stage.proofs.FoundWords.{least-length}
use Rattle.ncl_stage.proofs.outputs.least_one.Goals as goal

pub placed-requires : goal.placed-requires
placed-requires g c =
    let s : SpaceData = g.P.Space.meaning c.args.space.now in
    least-length true s.width (s.table c.args.x) c.least_one.new.out (c.if-least_one.ensures.word) ∙ c.requires.width
