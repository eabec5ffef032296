use Rattle.ncl_insensitivity.proofs.IllShapedLaws.{IsRun, IsStage-from_test, arith, delivers_too_early, eager_stage, eager_stage_breaks, netlist_from_tests, refl, two_zeros, with_eager_and}
use Rattle.ncl_insensitivity.proofs.unsound.incomplete_stage.Goals as goal

run : IsRun with_eager_and two_zeros delivers_too_early
run = (refl, (refl, (refl, (refl, (refl, tt)))))

pub returns-clause-counterexample : goal.returns-clause-counterexample
returns-clause-counterexample c = record { netlist = netlist_from_tests with_eager_and.netlist (record { driven = refl; fits = refl; ports_first = refl; in_order = refl; net_names = refl; cell_names = refl; few_cells = omega arith; few_nets = omega arith; few_ports = omega arith }); stage = IsStage-from_test eager_stage refl; breaks = eager_stage_breaks; run = run }

pub returns-clause-not_safe : goal.returns-clause-not_safe
returns-clause-not_safe c = λ safe.
    let early = safe.in_time two_zeros delivers_too_early (refl, tt) run in
    omega (arith, early)
