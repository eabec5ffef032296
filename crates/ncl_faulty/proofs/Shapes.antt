-- The examples are put together of banks and stages, and so they have the shape of a pipeline.
use Rattle.ncl_faulty.proofs.Terms.{All-from_recursion, Gate, HasGate, IsNetlist, IsStage-from_test, IsWiredBank, IsWiredStage, Kind, List, Shape, Shape-from_assembled, Th12, Th22, WiredBank, WiredBit, [], arith, bank_of_one, bank_of_two, bit, cell, codes, differing, doubling, eager_netlist, eager_stage, gate_netlist, gate_stage, is_stage, net_id, netlist_from_tests, numbered_one, numbered_two, one_bit_shape, one_wired, rails, refl, true, twins, twins_netlist, two_wired, wired, wired_bit, with_both_rails, with_dead_rail, with_eager_and, with_gate, with_orphan, ℕ, ◌∷◌, ◌≡◌}

-- ---- two banks of one bit with a gate

module _ (kind : Kind) (r0 r1 : ℕ) (netlist : IsNetlist (gate_netlist kind (rails r0 r1))) (passes : is_stage (gate_stage kind (rails r0 r1)) ≡ true) where
  gate_shape : Shape (gate_netlist kind (rails r0 r1)) (with_gate kind (rails r0 r1))
  gate_shape =
      one_bit_shape (codes "c" ∷ codes "p1_0" ∷ codes "p1_1" ∷ codes "g" ∷ []) r0 r1 (cell (Gate kind) (codes "g1") (8 ∷ 9 ∷ []) 10 ∷ []) (gate_stage kind (rails r0 r1)).cells netlist (IsStage-from_test (gate_stage kind (rails r0 r1)) passes)
      (All-from_recursion (HasGate (gate_netlist kind (rails r0 r1))) (gate_stage kind (rails r0 r1)).cells (record { cell = _; at = refl; kind = refl; ins = refl; out = refl }, tt)) refl

pub both_rails_shape : Shape with_both_rails.netlist with_both_rails
both_rails_shape = gate_shape Th12 10 9 (netlist_from_tests with_both_rails.netlist (record { driven = refl; fits = refl; ports_first = refl; in_order = refl; net_names = refl; cell_names = refl; few_cells = omega arith; few_nets = omega arith; few_ports = omega arith })) refl

pub dead_rail_shape : Shape with_dead_rail.netlist with_dead_rail
dead_rail_shape = gate_shape Th22 10 9 (netlist_from_tests with_dead_rail.netlist (record { driven = refl; fits = refl; ports_first = refl; in_order = refl; net_names = refl; cell_names = refl; few_cells = omega arith; few_nets = omega arith; few_ports = omega arith })) refl

pub orphan_shape : Shape with_orphan.netlist with_orphan
orphan_shape = gate_shape Th12 8 9 (netlist_from_tests with_orphan.netlist (record { driven = refl; fits = refl; ports_first = refl; in_order = refl; net_names = refl; cell_names = refl; few_cells = omega arith; few_nets = omega arith; few_ports = omega arith })) refl

-- ---- the AND of two bits

abbrev first_of_two : WiredBit
first_of_two = wired (bit 0 1 4) (rails 0 1) (rails 10 11) 14

abbrev second_of_two : WiredBit
second_of_two = wired (bit 2 3 5) (rails 2 3) (rails 12 13) 15

abbrev answer_bit : WiredBit
answer_bit = wired (bit 7 8 9) (rails 16 17) (rails 6 7) 9

abbrev eager_banks : List WiredBank
eager_banks = bank_of_two first_of_two second_of_two 9 6 8 ∷ bank_of_one answer_bit 4 ∷ []

pub eager_and_shape : Shape with_eager_and.netlist with_eager_and
eager_and_shape = Shape-from_assembled eager_netlist with_eager_and (record {
  is_netlist = netlist_from_tests eager_netlist (record { driven = refl; fits = refl; ports_first = refl; in_order = refl; net_names = refl; cell_names = refl; few_cells = omega arith; few_nets = omega arith; few_ports = omega arith });
  netlist = refl;
  wired = eager_banks;
  rst = net_id 5;
  banks = refl;
  each_bank = All-from_recursion (IsWiredBank eager_netlist (net_id 5)) eager_banks (
    two_wired eager_netlist 5 9 first_of_two second_of_two 6 8
        (wired_bit eager_netlist 9 5 first_of_two _ _ _ refl refl refl (refl, refl, refl, refl, refl, refl, refl, refl, refl) refl)
        (wired_bit eager_netlist 9 5 second_of_two _ _ _ refl refl refl (refl, refl, refl, refl, refl, refl, refl, refl, refl) refl)
        (record { cell = _; at = refl; kind = refl; ins = refl; out = refl }),
    (one_wired eager_netlist 5 4 answer_bit (wired_bit eager_netlist 4 5 answer_bit _ _ _ refl refl refl (refl, refl, refl, refl, refl, refl, refl, refl, refl) refl), tt),
  );
  few_banks = omega arith;
  each_stage = All-from_recursion (IsWiredStage eager_netlist) (eager_stage ∷ []) (
    record {
      is_stage = IsStage-from_test eager_stage refl;
      gates = All-from_recursion (HasGate eager_netlist) eager_stage.cells (
        record { cell = _; at = refl; kind = refl; ins = refl; out = refl },
        (record { cell = _; at = refl; kind = refl; ins = refl; out = refl }, tt),
      );
    },
    tt,
  );
  numbers = numbered_one eager_stage refl;
  rails_in = refl;
  rails_out = refl;
  roots = refl;
  cells = refl;
  ports = refl;
  directions = refl;
})

-- ---- the bit that is handed on twice

abbrev bit_alone : WiredBit
bit_alone = wired (bit 0 1 2) (rails 0 1) (rails 10 11) 8

abbrev one_twin : WiredBit
one_twin = wired (bit 3 4 7) (rails 10 11) (rails 13 14) 17

abbrev other_twin : WiredBit
other_twin = wired (bit 5 6 8) (rails 10 11) (rails 15 16) 18

abbrev one_answer : WiredBit
one_answer = wired (bit 10 11 14) (rails 13 14) (rails 4 5) 19

abbrev other_answer : WiredBit
other_answer = wired (bit 12 13 15) (rails 15 16) (rails 6 7) 20

abbrev twin_banks : List WiredBank
twin_banks = bank_of_one bit_alone 9 ∷ bank_of_two one_twin other_twin 12 9 9 ∷ bank_of_two one_answer other_answer 2 16 12 ∷ []

pub twins_shape : Shape twins.netlist twins
twins_shape = Shape-from_assembled twins_netlist twins (record {
  is_netlist = netlist_from_tests twins_netlist (record { driven = refl; fits = refl; ports_first = refl; in_order = refl; net_names = refl; cell_names = refl; few_cells = omega arith; few_nets = omega arith; few_ports = omega arith });
  netlist = refl;
  wired = twin_banks;
  rst = net_id 3;
  banks = refl;
  each_bank = All-from_recursion (IsWiredBank twins_netlist (net_id 3)) twin_banks (
    one_wired twins_netlist 3 9 bit_alone (wired_bit twins_netlist 9 3 bit_alone _ _ _ refl refl refl (refl, refl, refl, refl, refl, refl, refl, refl, refl) refl),
    (
      two_wired twins_netlist 3 12 one_twin other_twin 9 9
          (wired_bit twins_netlist 12 3 one_twin _ _ _ refl refl refl (refl, refl, refl, refl, refl, refl, refl, refl, refl) refl)
          (wired_bit twins_netlist 12 3 other_twin _ _ _ refl refl refl (refl, refl, refl, refl, refl, refl, refl, refl, refl) refl)
          (record { cell = _; at = refl; kind = refl; ins = refl; out = refl }),
      (
        two_wired twins_netlist 3 2 one_answer other_answer 16 12
            (wired_bit twins_netlist 2 3 one_answer _ _ _ refl refl refl (refl, refl, refl, refl, refl, refl, refl, refl, refl) refl)
            (wired_bit twins_netlist 2 3 other_answer _ _ _ refl refl refl (refl, refl, refl, refl, refl, refl, refl, refl, refl) refl)
            (record { cell = _; at = refl; kind = refl; ins = refl; out = refl }),
        tt,
      ),
    ),
  );
  few_banks = omega arith;
  each_stage = All-from_recursion (IsWiredStage twins_netlist) (doubling ∷ differing ∷ []) (
    record { is_stage = IsStage-from_test doubling refl; gates = All-from_recursion (HasGate twins_netlist) [] tt },
    (
      record {
        is_stage = IsStage-from_test differing refl;
        gates = All-from_recursion (HasGate twins_netlist) differing.cells (record { cell = _; at = refl; kind = refl; ins = refl; out = refl }, tt);
      },
      tt,
    ),
  );
  numbers = numbered_two doubling differing refl refl;
  rails_in = refl;
  rails_out = refl;
  roots = refl;
  cells = refl;
  ports = refl;
  directions = refl;
})
