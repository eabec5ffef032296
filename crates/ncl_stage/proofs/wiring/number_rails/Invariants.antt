use Rattle.ncl_stage.proofs.Terms.{rail_nets, take, ◌≡◌}
use Rattle.ncl_stage.proofs.wiring.number_rails.Given as goal

-- the rails of the bits so far are numbered
abbrev pub invariant-loop-pair : goal.invariant-loop-pair
invariant-loop-pair l = l.nets.keys ≡ rail_nets (take l.pair-index l.stage.inputs)
