use Rattle.ncl_sim.proofs.Looks.{ap, get_or, least_of-next, length, length-looks, looks-next, loses, meaning, note, note-else, note-then, sym, take, ◌∙◌, ◌≡◌}
use Rattle.ncl_sim.proofs.looking.look_all.Goals as goal
use Rattle.ncl_sim.proofs.looking.look_all.Goals.{then-branch}
use Rattle.ncl_sim.proofs.looking.look_all.Goals.{else-branch}

pub look-requires-clause-count : goal.look-requires-clause-count
look-requires-clause-count c =
    ap length c.loop-number.invariant.0 ∙ length-looks c.args.course.now.pipeline c.args.course.now.delays (meaning c.args.state.now) c.args.time c.args.agenda.now (take c.loop-number.number-index c.args.numbers.now) ∙ c.requires.count

pub loop-number-preserved : goal.loop-number-preserved
loop-number-preserved c =
    let p = c.args.course.now.pipeline in
    let d = c.args.course.now.delays in
    let s = meaning c.args.state.now in
    let ks = c.args.numbers.now in
    let i = c.loop-number.number-index in
    let noted : c.if-branch.lost ≡ note (loses p s c.loop-number.agenda (get_or ks i 0)) c.loop-number.lost (get_or ks i 0) =
    elim c.if-branch.branch [
      | then-branch w ↦ note-then _ _ _ _ (sym c.in_ok-look.ensures.lost ∙ w.if-branch.true) (w.lost-is ∙ w.lower-lost.ensures)
      | else-branch w ↦ note-else _ _ _ _ (sym c.in_ok-look.ensures.lost ∙ w.if-branch.false) w.lost-is
    ] in (
      c.in_ok-look.ensures.waits ∙ looks-next p d s c.args.time c.args.agenda.now c.loop-number.agenda ks i c.loop-number.invariant.0 c.loop-number-test.true,
      least_of-next p d s c.args.time c.args.agenda.now c.loop-number.agenda c.loop-number.lost c.if-branch.lost ks i c.loop-number.invariant.0 c.loop-number-test.true c.loop-number.invariant.1 noted,
    )
