use Rattle.ncl_insensitivity.proofs.WrittenNetlists.{IsHiddenAtOne, IsHiddenAtOne-word, IsStage-from_test, arith, chain, chain_pipeline, chain_stage, condition_of-other, netlist_from_tests, other_faults, quiet_by_cells, refl, where_the_chain_rests}
use Rattle.ncl_insensitivity.proofs.examples.word_through_a_chain.Goals as goal

pub returns-clause-netlist : goal.returns-clause-netlist
returns-clause-netlist c = netlist_from_tests chain (record { driven = refl; fits = refl; ports_first = refl; in_order = refl; net_names = refl; cell_names = refl; few_cells = omega arith; few_nets = omega arith; few_ports = omega arith })

pub returns-clause-stage : goal.returns-clause-stage
returns-clause-stage c = IsStage-from_test chain_stage refl

pub returns-clause-sound : goal.returns-clause-sound
returns-clause-sound c = λ fault.
    IsHiddenAtOne-word chain_stage fault
    (other_faults 4 (IsHiddenAtOne chain_stage) 1 1 1 4
    (λ differs. ((refl, refl), λ k. (refl, refl))) (λ differs. ((refl, refl), λ k. (refl, refl))) (λ differs. ((refl, refl), λ k. (refl, refl))) (λ differs. ((refl, refl), ((refl, refl), ((refl, refl), ((refl, refl), λ k. (refl, refl)))))) fault (condition_of-other fault))

pub returns-clause-quiet : goal.returns-clause-quiet
returns-clause-quiet c = quiet_by_cells chain_pipeline where_the_chain_rests 10 (refl, (refl, (refl, (refl, (refl, (refl, (refl, (refl, (refl, (refl, λ n. refl)))))))))) (λ bit. refl) (λ bit. refl) refl refl
