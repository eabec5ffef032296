use Rattle.ncl_blif.proofs.Terms.{Bor, List, signal_number, ℕ}
use Rattle.ncl_base.proofs.Growing.{map_push}
use Rattle.ncl_blif.proofs.finish.numbers_in.Goals as goal

pub loop-signal-preserved : goal.loop-signal-preserved
loop-signal-preserved c =
    let number : Bor (List ℕ) → ℕ = λ signal. signal_number c.args.draft.now signal.now in
    map_push number c.args.signals.now c.loop-signal.signal-index _ _ _ _ c.loop-signal-test.true c.loop-signal.invariant c.number_in.ensures c.in_ok-push.ensures.items
