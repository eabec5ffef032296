use Rattle.ncl_blif.proofs.Terms.{ap, begins_model, not, prefix_len, take_rest, ◌+◌, ◌∙◌}
use Rattle.ncl_blif.proofs.Sections.{section-cut}
use Rattle.ncl_blif.proofs.section.section_length.Goals as goal

pub returns-clause-cut : goal.returns-clause-cut
returns-clause-cut c =
    let rest = take_rest c.args.parts.now 1 in
    section-cut c.args.parts.now _ c.requires (ap (λ n. 1 + n) (c.length_before_model.ensures.count ∙ ap (prefix_len (λ part. not (begins_model part))) rest))
