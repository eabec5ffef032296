use Rattle.ncl_reaching.proofs.Terms.{Some, ap, option_map, sym, ◌∙◌, ◌≡◌}
use Rattle.ncl_complete.specs.declared.rail_fault.RailFault.TheVariants as rail
use Rattle.ncl_reaching.proofs.QuestionLaws.{rail_shown, outputs-found}
use Rattle.ncl_reaching.proofs.asking.found_in_outputs.Goals as goal

pub returns-in-Ok-Some-BothRails-clause-found : goal.returns-in-Ok-Some-BothRails-clause-found
returns-in-Ok-Some-BothRails-clause-found c =
    let fault : c.in-Ok-Some-BothRails.field-0 ≡ Some (rail.BothRails c.in-Ok-Some-BothRails.output c.in-Ok-Some-BothRails.input) = cc in
    ap (option_map rail_shown) (sym fault) ∙ outputs-found c.args.base.now.wiring.order c.args.chain.now c.in-Ok-Some-BothRails.field-0 c.in-Ok-Some-BothRails.ensures.found

pub returns-in-Ok-Some-NoRail-clause-found : goal.returns-in-Ok-Some-NoRail-clause-found
returns-in-Ok-Some-NoRail-clause-found c =
    let fault : c.in-Ok-Some-NoRail.field-0 ≡ Some (rail.NoRail c.in-Ok-Some-NoRail.output c.in-Ok-Some-NoRail.input) = cc in
    ap (option_map rail_shown) (sym fault) ∙ outputs-found c.args.base.now.wiring.order c.args.chain.now c.in-Ok-Some-NoRail.field-0 c.in-Ok-Some-NoRail.ensures.found

pub returns-in-Ok-None-clause-found : goal.returns-in-Ok-None-clause-found
returns-in-Ok-None-clause-found c = ap (option_map rail_shown) (sym c.in-Ok-None.field-0-is) ∙ outputs-found c.args.base.now.wiring.order c.args.chain.now c.in-Ok-None.field-0 c.in-Ok-None.ensures.found
