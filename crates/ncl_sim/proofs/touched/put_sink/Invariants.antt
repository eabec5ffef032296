use Rattle.ncl_sim.proofs.Terms.{Contains, Grows, rail_nets, take, items_at, ℕ, ◌<◌}
use Rattle.ncl_sim.proofs.touched.put_sink.Given as goal

abbrev pub invariant-loop-rails : goal.invariant-loop-rails
invariant-loop-rails l =
    ((count : ℕ) → l.sink < count → Grows count l.initial.table l.table)
    × ((net : ℕ) → Contains (rail_nets (take l.rails-index l.outputs)) net → Contains (items_at l.table net) l.sink)
