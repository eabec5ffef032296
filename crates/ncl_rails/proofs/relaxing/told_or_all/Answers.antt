use Rattle.ncl_rails.proofs.Terms.{IsCovered, subst, sym, waits_of}
use Rattle.ncl_rails.proofs.AllRead.{covered_all}
use Rattle.ncl_rails.proofs.relaxing.told_or_all.Goals as goal

pub returns : goal.returns
returns c = subst (λ waits. IsCovered c.args.network.now (waits_of waits)) (sym c.new-none.ensures.items) (covered_all c.args.network.now c.requires.complete)
