use Rattle.ncl_top.proofs.Terms.{Gives, IfOk, IsDemoReply, subst}
use Rattle.ncl_top.proofs.demonstrating.demonstrate.Goals as goal

pub returns : goal.returns
returns g c = subst (λ bits. IfOk c.judged.result (Gives (IsDemoReply bits))) c.in_ok-demo.ensures.bits c.judged.ensures
