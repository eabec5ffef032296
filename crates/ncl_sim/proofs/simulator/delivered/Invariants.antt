use Rattle.ncl_sim.proofs.Terms.{Fired, Taken, length, map, take, takes_in, ◌≡◌}
use Rattle.ncl_sim.proofs.simulator.delivered.Given as goal

abbrev pub invariant-loop-fired : goal.invariant-loop-fired
invariant-loop-fired l =
    (map (λ (x : Taken). x.time) l.taken.items ≡ map (λ (f : Fired). f.time) (takes_in (take l.fired-index l.steps)))
    × (map (λ (x : Taken). x.pair) l.taken.items ≡ take (length l.taken.items) l.pairs)
