use Rattle.ncl_blif.proofs.Terms.{arith, drop, length-drop, sym, ◌-◌, ◌∙◌}
use Rattle.ncl_blif.proofs.ReadFacts.{unjoined_short}
use Rattle.ncl_blif.proofs.reader.first_unjoined.Goals as goal

pub returns : goal.returns
returns c =
    let rest = drop (c.loop-place.place - 1) c.args.drafts.now in
    sym (unjoined_short c.loop-place.place rest (omega (arith, length-drop (c.loop-place.place - 1) c.args.drafts.now))) ∙ c.loop-place.invariant
