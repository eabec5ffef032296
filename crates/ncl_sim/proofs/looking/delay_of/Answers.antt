use Rattle.ncl_sim.proofs.RowLaws.{HasNetsBelow, get_or, meaning, nets-there, no_row, slice_get-get_or, subst, sym, told-there}
use Rattle.ncl_sim.proofs.looking.delay_of.Goals as goal

pub delay-requires : goal.delay-requires
delay-requires c =
    let course = c.args.course.now in
    let rows = c.rows-rows.result.now in
    let row = get_or rows c.args.number no_row in
    subst (λ nets. HasNetsBelow nets row) (sym c.requires.made.values)
    (nets-there course.pipeline course.delays rows c.rows-rows.ensures c.facts.ensures.shape c.args.number row (slice_get-get_or rows c.args.number no_row c.if-place-rows.true))

pub returns-then-place-rows : goal.returns-then-place-rows
returns-then-place-rows c =
    let course = c.args.course.now in
    let rows = c.rows-rows.result.now in
    told-there course.pipeline course.delays rows c.rows-rows.ensures c.facts.ensures.shape c.args.number (get_or rows c.args.number no_row) (slice_get-get_or rows c.args.number no_row c.if-place-rows.true)
    (meaning c.args.state.now) c.delay.result c.delay.ensures
