use Rattle.ncl_network.proofs.Terms.{All-from_recursion, IsNode, IsSource, List, Lit, ReachesOutput, Signal, arith, carry, carry_node, false, half_adder, is_constant, is_dash, list_all, output, refl, suc, sum, sum_node, zero, ℕ, ◌<◌, ◌≡◌}
use Rattle.std.specs.Prelude.{length}
use Rattle.ncl_network.proofs.examples.half_adder_of_two_nodes.Goals as goal

carry_is_node : IsNode carry_node
carry_is_node = record {
  two_inputs = omega arith;
  no_constant = All-from_recursion (λ (s : Signal). is_constant s.from ≡ false) carry_node.ins (refl, (refl, tt));
  some_row = omega arith;
  row_widths = All-from_recursion (λ (row : List Lit). length row ≡ length carry_node.ins) carry_node.rows (refl, tt);
  no_idle_row = All-from_recursion (λ (row : List Lit). list_all is_dash row ≡ false) carry_node.rows (refl, tt);
}

sum_is_node : IsNode sum_node
sum_is_node = record {
  two_inputs = omega arith;
  no_constant = All-from_recursion (λ (s : Signal). is_constant s.from ≡ false) sum_node.ins (refl, (refl, (refl, tt)));
  some_row = omega arith;
  row_widths = All-from_recursion (λ (row : List Lit). length row ≡ length sum_node.ins) sum_node.rows (refl, (refl, tt));
  no_idle_row = All-from_recursion (λ (row : List Lit). list_all is_dash row ≡ false) sum_node.rows (refl, (refl, tt));
}

reach : (k : ℕ) → k < 2 → ReachesOutput half_adder k
reach zero below = output 0 carry (0, omega arith, refl) refl
reach (suc zero) below = output 1 sum (1, omega arith, refl) refl
reach (suc (suc k)) below = absurd (omega arith)

pub returns-clause-network : goal.returns-clause-network
returns-clause-network c = record {
  nodes = All-from_recursion IsNode half_adder.nodes (carry_is_node, (sum_is_node, tt));
  reads_before = (
    All-from_recursion (λ (s : Signal). IsSource 2 0 s.from) carry_node.ins (omega arith, (omega arith, tt)),
    (All-from_recursion (λ (s : Signal). IsSource 2 1 s.from) sum_node.ins (omega arith, (omega arith, (omega arith, tt))), tt),
  );
  outputs_exist = All-from_recursion (λ (s : Signal). IsSource 2 2 s.from) half_adder.outputs (omega arith, (omega arith, tt));
  reach = reach;
  small = omega arith;
}
