use Rattle.ncl_stage.proofs.Terms.{SpaceData, false, ◌∙◌}
use Rattle.ncl_stage.proofs.FoundWords.{least-length}
use Rattle.ncl_stage.proofs.outputs.least_zero.Goals as goal

pub placed-requires : goal.placed-requires
placed-requires g c =
    let s : SpaceData = g.P.Space.meaning c.args.space.now in
    least-length false s.width (s.table c.args.x) c.least_zero.new.out (c.if-least_zero.ensures.word) ∙ c.requires.width
