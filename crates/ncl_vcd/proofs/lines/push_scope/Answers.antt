use Rattle.ncl_vcd.proofs.Terms.{ap, append_assoc, codes, ◌++◌, ◌∙◌}
use Rattle.ncl_vcd.proofs.lines.push_scope.Goals as goal

pub returns : goal.returns
returns c =
    let first = c.in_ok-extend_from_slice.ensures.items in
    let second = c.in_ok-extend_from_slice-2.ensures.items ∙ ap (λ l. l ++ c.args.name.now) first in
    c.in_ok-extend_from_slice-3.ensures.items ∙ ap (λ l. l ++ codes " $end\n") second ∙ simp append_assoc
