use Rattle.ncl_sim.proofs.Terms.{[], map, replicate, ◌≡◌}
use Rattle.ncl_sim.proofs.wheel.Wheel.new.Given as goal

abbrev pub invariant-loop : goal.invariant-loop
invariant-loop l = map (λ l. l.items) l.lists.items ≡ replicate l.counter []
