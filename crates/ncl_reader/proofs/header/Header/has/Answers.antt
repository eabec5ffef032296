use Rattle.ncl_reader.proofs.Ports.{sym, ap, ◌∙◌, is_some, kept_some, kept_known}
use Rattle.ncl_reader.proofs.header.Header.has.Goals as goal

pub returns : goal.returns
returns c = λ names said is. (
  λ e. kept_known names said c.args.name.now is.known (sym (ap is_some (is.by_name c.args.name.now)) ∙ sym c.contains_key.ensures ∙ e),
  λ stands. c.contains_key.ensures ∙ ap is_some (is.by_name c.args.name.now) ∙ kept_some names said c.args.name.now stands,
)
