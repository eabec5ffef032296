-- The parts of a stage that gates of a complete network make by names.
use Rattle.ncl_rails.proofs.Terms.{All, All-from_members, AllPairs, AnswersAs, AreNumbered, AreStageParts, Base, Bool, CanBeNamed, CanBeStage, Contains, Contains-from_Member, Gate, GatesData, HasAllPins, IsComplete, IsCovered, IsLaidOut, IsNamed, IsNumberedStage, IsPartName, IsSound, IsSource, IsStage, IsWordOf, Kind, List, Member, Member-from_Contains, NamePair, Network, PartCell, Rails, Signal, StageCell, StageData, StageParts, answer_of, ap, arith, arity_of, cost_of_network, input_pair, input_pairs, length, length-map, length-map-range_with_len, map, map-map, member_of_map, most_parts, name_of_net, name_of_pair, names_known, nets_of, output_name, pair_names, part_of_gate, rail_nets, refl, signal_pair, subst, sym, val, ℕ, ◌*◌, ◌+◌, ◌∙◌, ◌≡◌, ◌≢◌, ◌≤◌}
use Rattle.ncl_rails.proofs.Lists.{at_member}
use Rattle.ncl_rails.proofs.Laying.{signals_known, rail_known}
use Rattle.ncl_rails.proofs.GateNames.{gate_pins, known_named, reads_known, pairs_known_named, net_below, can_be_named}
use Rattle.ncl_rails.proofs.Numbering.{renumber, IsRenamed-numbered, IsStage-renamed, numbers_differ}
use Rattle.ncl_rails.proofs.Renaming.{IsRenamed, ones_shown}
use Rattle.ncl_rails.proofs.Composition.{output_pairs}
use Rattle.ncl_rails.proofs.Soundness.{is_sound, outputs_answer}
use Rattle.ncl_rails.proofs.Distinct.{AllDiffer-from, cells_differ, nets_differ, known_differ, cell_formed, net_formed, no_cell_is_net}

module _ (network : Network) (ins : List NamePair) (prefix : List ℕ) (can : CanBeStage network ins prefix) (complete : Network) (is : IsComplete complete) (alike : AnswersAs network complete) (gates : GatesData) (few_cells : length gates.cells ≤ cost_of_network network + 2 * network.inputs + 2 * length network.outputs) (numbered : AreNumbered gates) (outs : List Rails) (waits : ℕ → List Bool → ℕ → Bool) (covered : IsCovered complete waits) (laid : IsLaidOut complete waits gates outs) where
  count : length ins ≡ complete.inputs
  count = can.as_many ∙ sym alike.inputs

  first : gates.first ≡ 2 * length ins
  first = laid.first ∙ ap (λ n. 2 * n) (sym count)

  few : length gates.cells ≤ most_parts
  few = omega (arith, few_cells, can.split.cheap, can.few_inputs, can.few_outputs)

  length_inputs : length (input_pairs complete.inputs) ≡ complete.inputs
  length_inputs = length-map-range_with_len input_pair 0 complete.inputs

  -- the nets of the outputs are known
  outs_known : (net : ℕ) → Member net (rail_nets outs) → Contains (nets_of (input_pairs complete.inputs) gates.cells) net
  outs_known net m =
      rail_known (nets_of (input_pairs complete.inputs) gates.cells) (map (signal_pair (input_pairs complete.inputs) laid.pairs) complete.outputs)
      (signals_known (input_pairs complete.inputs) waits complete.nodes gates.cells laid.pairs laid.nodes complete.outputs
      (subst (λ n. All (λ (s : Signal). IsSource n (length laid.pairs) s.from) complete.outputs) (sym length_inputs)
      (subst (λ k. All (λ (s : Signal). IsSource complete.inputs k s.from) complete.outputs) (sym laid.nodes.pairs_as_many) is.varying.outputs_exist))
      is.varying.no_constant_output)
      net (subst (λ rs. Member net (rail_nets rs)) laid.outputs m)

  -- all have names
  pub gates_named : All (CanBeNamed (length ins)) gates.cells
  gates_named =
      subst (λ n. All (CanBeNamed n) gates.cells) (sym count) (can_be_named gates numbered complete.inputs laid.first few laid.nodes.in_order)

  pub outs_named : All (IsNamed (length ins)) (rail_nets outs)
  outs_named =
      subst (λ n. All (IsNamed n) (rail_nets outs)) (sym count)
      (All-from_members (IsNamed complete.inputs) (rail_nets outs) (λ net m. net_below gates numbered complete.inputs laid.first few net (outs_known net m)))

  -- ---- a numbered stage

  module _ (number : List ℕ → ℕ) (s : StageData) (numbers : IsNumberedStage number ins (map (name_of_pair (pair_names ins) prefix) outs) (map (part_of_gate (pair_names ins) prefix) gates.cells) s) where
    same : IsRenamed (renumber number (pair_names ins) prefix) (input_pairs complete.inputs) gates.cells outs s
    same = IsRenamed-numbered number ins prefix complete.inputs count gates.cells outs s numbers

    nets_apart : AllPairs (λ x y. x ≢ y) (map (renumber number (pair_names ins) prefix) (nets_of (input_pairs complete.inputs) gates.cells))
    unfolding renumber
    nets_apart =
        subst (AllPairs (λ x y. x ≢ y)) (ap (map number) (known_named ins prefix complete.inputs count gates.cells) ∙ twice (nets_of (input_pairs complete.inputs) gates.cells))
        (numbers_differ number (names_known ins (map (part_of_gate (pair_names ins) prefix) gates.cells)) (known_differ ins prefix gates numbered first few can.differ can.free) numbers.one_to_one)
      where
        twice : (nets : List ℕ) → map number (map (name_of_net (pair_names ins) prefix) nets) ≡ map (λ net. number (name_of_net (pair_names ins) prefix net)) nets
        twice nets = map-map number (name_of_net (pair_names ins) prefix) nets

    length_outs : length outs ≡ length network.outputs
    length_outs = ap length laid.outputs ∙ length-map complete.outputs (signal_pair (input_pairs complete.inputs) laid.pairs) ∙ alike.outputs

    numbered_is_stage : IsStage s
    numbered_is_stage =
        IsStage-renamed (renumber number (pair_names ins) prefix) (input_pairs complete.inputs) gates.cells outs s same
        (omega (arith, can.some_inputs, length_inputs, alike.inputs))
        (omega (arith, can.few_inputs, length_inputs, alike.inputs))
        (omega (arith, can.some_outputs, length_outs))
        (omega (arith, can.few_outputs, length_outs))
        nets_apart numbers.cells_differ laid.nodes.arities laid.nodes.in_order outs_known

    same_outs : IsRenamed (renumber number (pair_names ins) prefix) (input_pairs complete.inputs) gates.cells (output_pairs complete waits (input_pairs complete.inputs) gates.cells laid.pairs is covered laid.nodes) s
    unfolding output_pairs
    same_outs = subst (λ rs. IsRenamed (renumber number (pair_names ins) prefix) (input_pairs complete.inputs) gates.cells rs s) laid.outputs same

    numbered_is_sound : IsSound s
    numbered_is_sound = is_sound complete waits (input_pairs complete.inputs) gates.cells laid.pairs is covered laid.nodes length_inputs (renumber number (pair_names ins) prefix) s numbered_is_stage same_outs

    numbered_answers : (word : List Bool) → IsWordOf s word → map (λ (r : Rails). val s word Base r.one.0) s.outputs ≡ answer_of network word
    numbered_answers word right =
        ones_shown (val s word Base) s.outputs (answer_of complete word)
        (outputs_answer complete waits (input_pairs complete.inputs) gates.cells laid.pairs is covered laid.nodes length_inputs (renumber number (pair_names ins) prefix) s numbered_is_stage same_outs word right)
        ∙ alike.same word

  -- ---- the parts

  each_part : (P : PartCell → Type 0) → ((c : StageCell) → Member c gates.cells → P (part_of_gate (pair_names ins) prefix c)) → All P (map (part_of_gate (pair_names ins) prefix) gates.cells)
  each_part P each =
      All-from_members P (map (part_of_gate (pair_names ins) prefix) gates.cells) (λ cell m.
      let (c, among, made) = member_of_map (part_of_gate (pair_names ins) prefix) gates.cells cell m in
      subst P made (each c among))

  made : AreStageParts network ins prefix (record { cells = map (part_of_gate (pair_names ins) prefix) gates.cells; outputs = map (name_of_pair (pair_names ins) prefix) outs })
  made = record {
    gates = each_part (λ (cell : PartCell). (kind : Kind) × (cell.kind ≡ Gate kind)) (λ c m. (c.kind, refl));
    all_pins = each_part HasAllPins (λ c m. gate_pins (pair_names ins) prefix c (at_member (λ (c : StageCell). length c.ins.items ≡ arity_of c.kind) gates.cells laid.nodes.arities c (Contains-from_Member c m)));
    reads_known = reads_known ins prefix complete.inputs count gates.cells laid.nodes.in_order;
    as_many = length-map outs (name_of_pair (pair_names ins) prefix) ∙ ap length laid.outputs ∙ length-map complete.outputs (signal_pair (input_pairs complete.inputs) laid.pairs) ∙ alike.outputs;
    outputs_known = pairs_known_named ins prefix complete.inputs count gates.cells outs outs_known;
    is_stage = numbered_is_stage;
    sound = numbered_is_sound;
    answers = numbered_answers;
    few = omega (arith, few_cells, length-map gates.cells (part_of_gate (pair_names ins) prefix));
    cell_names = All-from_members (λ (cell : PartCell). IsPartName prefix cell.name) (map (part_of_gate (pair_names ins) prefix) gates.cells) (cell_formed ins prefix gates numbered first few);
    net_names = All-from_members (λ (cell : PartCell). IsPartName prefix (output_name cell)) (map (part_of_gate (pair_names ins) prefix) gates.cells) (net_formed ins prefix gates numbered first few);
    cells_differ = AllDiffer-from (map (λ (cell : PartCell). cell.name) (map (part_of_gate (pair_names ins) prefix) gates.cells)) (cells_differ ins prefix gates numbered first few);
    nets_differ = AllDiffer-from (map output_name (map (part_of_gate (pair_names ins) prefix) gates.cells)) (nets_differ ins prefix gates numbered first few);
    no_cell_is_net = λ cell other m n. no_cell_is_net ins prefix gates numbered first few cell other (Member-from_Contains (map (part_of_gate (pair_names ins) prefix) gates.cells) cell m) (Member-from_Contains (map (part_of_gate (pair_names ins) prefix) gates.cells) other n);
  }

  pub AreStageParts-made : (parts : StageParts) → parts.cells ≡ map (part_of_gate (pair_names ins) prefix) gates.cells → parts.outputs ≡ map (name_of_pair (pair_names ins) prefix) outs → AreStageParts network ins prefix parts
  AreStageParts-made parts cells_are outputs_are =
      subst (AreStageParts network ins prefix) (λ i. record { cells = sym cells_are i; outputs = sym outputs_are i }) made
