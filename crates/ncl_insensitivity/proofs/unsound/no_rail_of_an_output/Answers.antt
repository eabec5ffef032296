use Rattle.ncl_insensitivity.proofs.IllShapedLaws.{IsQuiet, IsRun, IsStage-from_test, after_run, arith, dead_stage, dead_stage_breaks, gets_stuck, netlist_from_tests, one_zero, quiet_by_cells, refl, with_dead_rail}
use Rattle.ncl_insensitivity.proofs.unsound.no_rail_of_an_output.Goals as goal

run : IsRun with_dead_rail one_zero gets_stuck
run = (refl, (refl, (refl, (refl, tt))))

pub returns-clause-counterexample : goal.returns-clause-counterexample
returns-clause-counterexample c = record { netlist = netlist_from_tests with_dead_rail.netlist (record { driven = refl; fits = refl; ports_first = refl; in_order = refl; net_names = refl; cell_names = refl; few_cells = omega arith; few_nets = omega arith; few_ports = omega arith }); stage = IsStage-from_test dead_stage refl; breaks = dead_stage_breaks; run = run }

nothing_moves : IsQuiet with_dead_rail (after_run with_dead_rail one_zero gets_stuck)
nothing_moves = quiet_by_cells with_dead_rail (after_run with_dead_rail one_zero gets_stuck) 7 (refl, (refl, (refl, (refl, (refl, (refl, (refl, λ n. refl))))))) (λ bit. refl) (λ bit. refl) refl refl

pub returns-clause-quiet : goal.returns-clause-quiet
returns-clause-quiet c = nothing_moves

pub returns-clause-not_insensitive : goal.returns-clause-not_insensitive
returns-clause-not_insensitive c = λ insensitive.
    let none = (insensitive.at_rest one_zero gets_stuck (refl, tt) run nothing_moves).delivered in
    absurd cc
