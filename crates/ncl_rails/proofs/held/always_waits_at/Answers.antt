use Rattle.ncl_rails.proofs.Terms.{Input, false, rules, waits_at}
use Rattle.ncl_rails.proofs.Holding.{WaitsFor-at}
use Rattle.ncl_rails.proofs.held.always_waits_at.Goals as goal

pub returns-then-always : goal.returns-then-always
returns-then-always c = λ yes word.
    WaitsFor-at (waits_at c.args.waits word) c.args.ins.now c.args.source c.args.place (record { from = Input 0; inverted = false }) c.requires (search rules) (c.always.ensures c.if-always.true word)
