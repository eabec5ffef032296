use Rattle.ncl_template.proofs.Terms.{eqb-true, sym, ◌∙◌}
use Rattle.ncl_template.proofs.WaitsLaws.{always_at}
use Rattle.ncl_template.proofs.waits.Waits.always.Goals as goal

pub returns : goal.returns
returns c = λ yes. always_at c.args.self c.args.place (sym c.mask.ensures ∙ eqb-true c.mask.result 65535 yes)
