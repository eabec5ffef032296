-- Two banks joined by wires are put together of banks and a stage, and so they have the shape of a linear pipeline.
use Rattle.ncl_faulty.proofs.Terms.{All-from_recursion, HasGate, IsNetlist, IsStage-from_test, Shape, [], arith, codes, netlist_from_tests, one_bit_shape, one_bit_stage, refl, wires, wires_pipeline, ◌∷◌}

pub wires_netlist : IsNetlist wires
wires_netlist = netlist_from_tests wires (record { driven = refl; fits = refl; ports_first = refl; in_order = refl; net_names = refl; cell_names = refl; few_cells = omega arith; few_nets = omega arith; few_ports = omega arith })

pub wires_shape : Shape wires wires_pipeline
wires_shape = one_bit_shape (codes "c" ∷ codes "p1_0" ∷ codes "p1_1" ∷ []) 8 9 [] [] wires_netlist (IsStage-from_test (one_bit_stage 8 9 []) refl) (All-from_recursion (HasGate wires) [] tt) refl
