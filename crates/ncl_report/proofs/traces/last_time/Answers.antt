use Rattle.std.proofs.Common.{sym, ◌∙◌, ap}
use Rattle.std.specs.Option.{option_copied}
use Rattle.ncl_report.proofs.Zipping.{last_at}
use Rattle.ncl_report.proofs.traces.last_time.Goals as goal

pub returns-in-Some : goal.returns-in-Some
returns-in-Some c = sym (last_at 0 c.args.steps.now c.in-Some.fired.now (sym c.last.ensures.value ∙ ap option_copied c.in-Some.is))
