use Rattle.std.proofs.lemmas.Bool.{false≢true}
use Rattle.ncl_graph.proofs.Ranking.{lower_successors}
use Rattle.ncl_graph.proofs.first_on_cycle.is_on_cycle.Goals as goal

pub returns-then-all_below : goal.returns-then-all_below
returns-then-all_below c =
    let below = rw c.successors.ensures.successors at c.all_below.ensures.0 c.if-all_below.true in
    (λ e. absurd (false≢true e), λ on. absurd (lower_successors _ _ c.requires.falls _ below on))
