use Rattle.ncl_insensitivity.proofs.IllShapedLaws.{DeliversWhatIsDue, IsRun, IsStage-from_test, [], after_run, ap, arith, delivers_both_rails, false, illegal_stage, illegal_stage_breaks, map, netlist_from_tests, not, one_word, refl, sym, true, with_both_rails, ◌∙◌, ◌∷◌, ◌≡◌}
use Rattle.ncl_insensitivity.proofs.unsound.both_rails_of_an_output.Goals as goal

run : IsRun with_both_rails one_word delivers_both_rails
run = (refl, (refl, (refl, (refl, (refl, (refl, (refl, tt)))))))

pub returns-clause-counterexample : goal.returns-clause-counterexample
returns-clause-counterexample c = record { netlist = netlist_from_tests with_both_rails.netlist (record { driven = refl; fits = refl; ports_first = refl; in_order = refl; net_names = refl; cell_names = refl; few_cells = omega arith; few_nets = omega arith; few_ports = omega arith }); stage = IsStage-from_test illegal_stage refl; breaks = illegal_stage_breaks; run = run }

-- the pair taken carries no word
not_due : DeliversWhatIsDue with_both_rails one_word (after_run with_both_rails one_word delivers_both_rails) → ⊥
not_due due =
    let (word, is_due, carries) = due 0 (record { rail0 = true ∷ true ∷ []; rail1 = true ∷ false ∷ [] }) refl in
    let same : true ∷ true ∷ [] ≡ false ∷ true ∷ [] = carries.zeros ∙ ap (map not) (sym carries.ones) in
    absurd cc

pub returns-clause-not_due : goal.returns-clause-not_due
returns-clause-not_due c = not_due

pub returns-clause-not_safe : goal.returns-clause-not_safe
returns-clause-not_safe c = λ safe. not_due (safe.due one_word delivers_both_rails (refl, tt) run)
