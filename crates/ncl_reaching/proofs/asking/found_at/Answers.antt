use Rattle.ncl_reaching.proofs.Terms.{Cell, Err, ap, handed_on, length, ◌+◌, ◌-◌}
use Rattle.ncl_reaching.proofs.asking.found_at.Goals as goal

pub returns-in_err-word-in-Cell-clause-full : goal.returns-in_err-word-in-Cell-clause-full
returns-in_err-word-in-Cell-clause-full c = λ e. record {
  variant = Cell (length c.items.result.now - length c.items-2.result.now + c.in-Cell.place);
  past = c.in_err-word-in-Cell.ensures.full (ap Err (handed_on c.from_residual-in_err-word-in-Cell.result c.in_err-word-in-Cell.field-0.0 c.from_residual-in_err-word-in-Cell.ensures.1 e));
}
