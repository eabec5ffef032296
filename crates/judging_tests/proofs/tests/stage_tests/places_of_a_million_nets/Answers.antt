use Rattle.std.proofs.Common.{List, ℕ, sym, subst}
use Rattle.std.specs.Prelude.{Contains}
use Rattle.ncl_stage.proofs.OrderLaws.{ascending-order}
use Rattle.judging_tests.proofs.tests.stage_tests.places_of_a_million_nets.Goals as goal

pub place_of-requires : goal.place_of-requires
place_of-requires g c = subst (λ (nets : List ℕ). Contains nets c.loop-net.net) (sym c.in_ok-nets.ensures) ((ascending-order 1000000).each c.loop-net.net c.loop-net-test.true)
