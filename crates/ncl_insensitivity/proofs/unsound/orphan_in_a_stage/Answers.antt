use Rattle.ncl_insensitivity.proofs.IllShapedLaws.{IsRun, IsStage-from_test, arith, cells_differ, fire, leaves_a_gate_behind, netlist_from_tests, one_word, orphan_stage, orphan_stage_breaks, refl, taken_back_is_unsafe, with_orphan}
use Rattle.ncl_insensitivity.proofs.unsound.orphan_in_a_stage.Goals as goal

run : IsRun with_orphan one_word leaves_a_gate_behind
run = (refl, (refl, (refl, (refl, (refl, (refl, tt))))))

pub returns-clause-counterexample : goal.returns-clause-counterexample
returns-clause-counterexample c = record { netlist = netlist_from_tests with_orphan.netlist (record { driven = refl; fits = refl; ports_first = refl; in_order = refl; net_names = refl; cell_names = refl; few_cells = omega arith; few_nets = omega arith; few_ports = omega arith }); stage = IsStage-from_test orphan_stage refl; breaks = orphan_stage_breaks; run = run }

pub returns-clause-not_safe : goal.returns-clause-not_safe
returns-clause-not_safe c =
    taken_back_is_unsafe with_orphan one_word leaves_a_gate_behind (refl, tt) run
    (fire 1) (fire 3) (record { differ = cells_differ 1 3 (λ e. absurd cc); can = refl; other_can = refl; other_lost = refl })
