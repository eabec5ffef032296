use Rattle.ncl_diagram.proofs.Terms.{and_mask, ap, shr_split, sym, ℕ, ◌*◌, ◌+◌, ◌/◌, ◌∙◌}
use Rattle.ncl_diagram.proofs.Packing.{says}
use Rattle.ncl_diagram.proofs.slot.Slot.answer.Goals as goal

pub returns-clause-some : goal.returns-clause-some
returns-clause-some c all =
    let word = c.self.inside.second in
    let rest = sym (and_mask word 38) ∙ c.if-self-mask.false ∙ c.below_answer.ensures all in
    let second = sym (shr_split word 38) ∙ ap (λ (low : ℕ). word / 274877906944 * 274877906944 + low) rest in
    sym c.self.view_is ∙ says c.self.inside.first word c.args.kind c.args.key (record { place = word / 274877906944 }) all (c.if-self-first_of.false ∙ c.first_of.ensures all) second
