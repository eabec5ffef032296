use Rattle.ncl_demo.proofs.Terms.{AllocError, Ok, YieldsList-from_range, items_from_collect, refl}
use Rattle.ncl_demo.proofs.models.numbers.Goals as goal

pub returns : goal.returns
returns c = items_from_collect {E = AllocError} (Ok c.in_ok-collect.field-0) c.in_ok-collect.ensures.ran (YieldsList-from_range c.args.from c.args.below _ refl refl)
