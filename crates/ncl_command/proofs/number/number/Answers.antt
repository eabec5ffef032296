use Rattle.std.proofs.Common.{sym, ◌∙◌}
use Rattle.ncl_command.proofs.Numbers.{number_is}
use Rattle.ncl_command.proofs.number.number.Goals as goal

pub returns : goal.returns
returns c =
    c.ok.ensures.value ∙ number_is c.args.most_digits c.args.text.now c.parse.result c.parse.ensures.value.0 c.requires (sym c.is_number.ensures ∙ c.if-not-is_number.false)
