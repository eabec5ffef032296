use Rattle.ncl_rails.proofs.Terms.{ap, nat_eq, shr_and_one, ℕ}
use Rattle.ncl_rails.proofs.held.is_set.Goals as goal

pub returns : goal.returns
returns c = ap (λ (b : ℕ). nat_eq b 1) (shr_and_one c.args.number c.args.place)
