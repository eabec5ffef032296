use Rattle.ncl_vcd.proofs.Terms.{[], ap, append_assoc, codes, identifier_code, ◌++◌, ◌∙◌, ◌∷◌}
use Rattle.ncl_vcd.proofs.lines.push_variable.Goals as goal

pub returns : goal.returns
returns c =
    let first = c.in_ok-extend_from_slice.ensures.items in
    let second = c.in_ok-push_code.ensures ∙ ap (λ l. l ++ identifier_code c.args.net) first in
    let third = c.in_ok-push.ensures.items ∙ ap (λ l. l ++ 32 ∷ []) second in
    let fourth = c.in_ok-extend_from_slice-2.ensures.items ∙ ap (λ l. l ++ c.args.name.now) third in
    c.in_ok-extend_from_slice-3.ensures.items ∙ ap (λ l. l ++ codes " $end\n") fourth ∙ simp append_assoc
