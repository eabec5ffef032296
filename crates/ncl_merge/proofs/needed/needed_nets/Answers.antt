use Rattle.ncl_merge.proofs.Terms.{ap, filter, is_needed, ◌∙◌}
use Rattle.ncl_merge.proofs.needed.needed_nets.Goals as goal

pub returns : goal.returns
returns c =
    let joint = c.args.joint.now in
    c.needed_among.ensures ∙ ap (λ nets. filter (is_needed joint.driver joint.reader nets c.args.words.now) nets) (c.deref.ensures.0 ∙ c.nets_through-nets.ensures.nets)
