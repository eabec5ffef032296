-- The ends of a pipeline that has its shape, as a state keeps them: the rails of its inputs and outputs and its
-- acknowledges differ and are nets, and no cell drives a rail of the inputs.
use Rattle.ncl_machine.proofs.Terms.{All, All-from_members, AllPairs, Cell, Contains, IsLayoutOf, Layout, List, MOST_BITS, Member, Member-append_left, Member-from_Contains, PipelineData, Rails, Shape, Some, arith, false, false_from_ne_true, laid_out_of, left-differ, length, map, out_of, rail-place, rail_nets, reset_nets, slice_get, subst, suc, sym, ℕ, ◌<◌, ◌∙◌, ◌≡◌, ◌≢◌, ◌≤◌}
use Rattle.ncl_machine.proofs.CellNets.{output-no_source, source-no_ki}
use Rattle.ncl_machine.proofs.Start.{stage-value, held-net, held-net_listed}
use Rattle.ncl_machine.proofs.StageNets.{ki-listed, root-listed}

module _ {p : PipelineData} {l : Layout} (is : IsLayoutOf p l) where
  sink_rails : (l.stage l.last).inputs ≡ p.outputs
  sink_rails = sym is.last_wires.1 ∙ is.sink

  input_place : (net : ℕ) → Member net (rail_nets p.inputs) → Member net (rail_nets (l.stage 0).inputs)
  input_place net m = subst (λ bits. Member net (rail_nets bits)) (sym is.source) m

  no_cell : (i : ℕ) (c : Cell) → slice_get p.netlist.cells i ≡ Some c → Member c.out.0 (rail_nets p.inputs) → ⊥
  no_cell i c at m =
      let (b, r, lt, e) = rail-place (l.stage 0).inputs c.out.0 (input_place c.out.0 m) in
      output-no_source is c (is.part_of i c at) b r lt (sym e)

  no_ki : Member p.ki (rail_nets p.inputs) → ⊥
  no_ki m =
      let (b, r, lt, e) = rail-place (l.stage 0).inputs p.ki (input_place p.ki m) in
      source-no_ki is b r lt (sym e)

  inputs_apart : AllPairs (λ x y. x ≢ y) (rail_nets p.inputs)
  inputs_apart =
      subst (λ bits. AllPairs (λ x y. x ≢ y) (rail_nets bits)) is.source
      (left-differ (rail_nets (l.stage 0).inputs) (map out_of (l.stage 0).cells) (is.is_stage 0 (omega arith)).nets_differ)

  outputs_apart : AllPairs (λ x y. x ≢ y) (rail_nets p.outputs)
  outputs_apart =
      subst (λ bits. AllPairs (λ x y. x ≢ y) (rail_nets bits)) sink_rails
      (left-differ (rail_nets (l.stage l.last).inputs) (map out_of (l.stage l.last).cells) (is.is_stage l.last (omega arith)).nets_differ)

  inputs_within : (net : ℕ) → Member net (rail_nets p.inputs) → net < length p.netlist.nets
  inputs_within net m = is.stage_within 0 net (omega arith) (Member-append_left net (map out_of (l.stage 0).cells) (input_place net m))

  outputs_within : (net : ℕ) → Member net (rail_nets p.outputs) → net < length p.netlist.nets
  outputs_within net m =
      is.stage_within l.last net (omega arith) (Member-append_left net (map out_of (l.stage l.last).cells) (subst (λ bits. Member net (rail_nets bits)) (sym sink_rails) m))

  few_outputs : length p.outputs ≤ MOST_BITS
  few_outputs = subst (λ (bits : List Rails). length bits ≤ MOST_BITS) is.sink (is.is_stage l.last (omega arith)).few_outputs

  ki_within : p.ki < length p.netlist.nets
  ki_within = is.tree_within l.last p.ki (omega arith) (ki-listed is)

  ko_within : p.ko < length p.netlist.nets
  ko_within = subst (λ net. net < length p.netlist.nets) is.ko (is.tree_within 0 (l.root 0) (omega arith) (root-listed is 0 (omega arith)))

  -- at reset the rails of the inputs are low: no bank drives them
  inputs_low : (net : ℕ) → Member net (rail_nets p.inputs) → reset_nets p net ≡ false
  inputs_low net m =
      let listed = Member-append_left net (map out_of (l.stage 0).cells) (input_place net m) in
      stage-value is 0 net (omega arith) listed
      ∙ false_from_ne_true _ (λ high.
      let h = held-net is net high in
      let banks = is.stages_apart (suc h.bank) 0 net h.within (omega arith) (held-net_listed is net h) listed in
      absurd (omega (arith, banks)))

pub record AreProgramEnds (p : PipelineData) : Type 0 where
  pub inputs_apart : AllPairs (λ x y. x ≢ y) (rail_nets p.inputs)
  pub outputs_apart : AllPairs (λ x y. x ≢ y) (rail_nets p.outputs)
  pub inputs_within : All (λ net. net < length p.netlist.nets) (rail_nets p.inputs)
  pub outputs_within : All (λ net. net < length p.netlist.nets) (rail_nets p.outputs)
  pub few_outputs : length p.outputs ≤ MOST_BITS
  pub ki_apart : Contains (rail_nets p.inputs) p.ki → ⊥
  pub ki_within : p.ki < length p.netlist.nets
  pub ko_within : p.ko < length p.netlist.nets
  pub inputs_low : (net : ℕ) → Member net (rail_nets p.inputs) → reset_nets p net ≡ false
  pub driven : (i : ℕ) (c : Cell) → slice_get p.netlist.cells i ≡ Some c → Contains (rail_nets p.inputs) c.out.0 → ⊥

pub program_ends : (p : PipelineData) → Shape p.netlist p → AreProgramEnds p
program_ends p shape =
    let (l, is) = laid_out_of p.netlist p shape in
    record {
      inputs_apart = inputs_apart is;
      outputs_apart = outputs_apart is;
      inputs_within = All-from_members _ (rail_nets p.inputs) (inputs_within is);
      outputs_within = All-from_members _ (rail_nets p.outputs) (outputs_within is);
      few_outputs = few_outputs is;
      ki_apart = λ some. no_ki is (Member-from_Contains (rail_nets p.inputs) p.ki some);
      ki_within = ki_within is;
      ko_within = ko_within is;
      inputs_low = inputs_low is;
      driven = λ i c at some. no_cell is i c at (Member-from_Contains (rail_nets p.inputs) c.out.0 some);
    }
