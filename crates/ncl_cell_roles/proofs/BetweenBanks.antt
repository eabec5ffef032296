-- What stands between two banks: each stage with its gates, and the register cells that read its outputs.
use Rattle.ncl_cell_roles.proofs.Terms.{All-from_members, AllPairs, AllZip-long, AreInputsOf, AreRailsOf, B, Bank, Bool, Cell, CellAt, ComesFrom, Contains, Contains-from_Member, Contains-from_slice_get, Gate, IsCellOf, IsGateOf, IsRegisterOn, IsStage, Kind, List, Member, Member-append_cases, Member-from_Contains, NetId, OnPin, PipelineData, RailOf, Rails, Shape, ShownOutputs, SomeCell, StageCell, StageData, [], ap, append-nil, arith, bank_of_rail, inl, inr, length, length-map, map, member_of_map, nets_of, out_of, rail, rail_at, rail_nets, refl, request_at, requests, same_cell, slice_get, slice_get-from_Contains, slice_get-some, slice_get_within, subst, suc, sym, zero, ℕ, ◌++◌, ◌+◌, ◌<◌, ◌∙◌, ◌∷◌, ◌≡◌, ◌≢◌, ◌≤◌, ◌⊎◌}
use Rattle.std.specs.Prelude.{Some}
use Rattle.ncl_cell_roles.proofs.RailNets.{rail-place}
use Rattle.ncl_cell_roles.proofs.BankBits.{IsRegisterOfRail, place_of_rail, drives_rail, reads_rail, has_bit, register_of_rail, bank_rails_differ}
use Rattle.ncl_cell_roles.proofs.Numbering.{wires_of, stage_at, root_at, inner_or_last, last_stage, bank_named, stage_after, bank_rails, bank_inputs, request_is_root}
use Rattle.ncl_cell_roles.proofs.EndLaws.{first_bank, inputs_differ}

-- wires are a stage
wires_are_stage : (bits : List Rails) → 0 < length bits → length bits ≤ 128 → AllPairs (λ x y. x ≢ y) (rail_nets bits) → IsStage (wires_of bits)
wires_are_stage bits some few differ = record {
  some_inputs = omega (arith, some);
  few_inputs = few;
  some_outputs = omega (arith, some);
  few_outputs = few;
  nets_differ = subst (λ xs. AllPairs (λ x y. x ≢ y) xs) (sym (append-nil (rail_nets bits))) differ;
  cells_differ = λ i j d before within. absurd (omega (arith, within));
  arities = λ i d within. absurd (omega (arith, within));
  in_order = λ before after cell e. absurd (none_between before after cell e);
  outputs_known = All-from_members (Contains (nets_of bits [])) (rail_nets bits) (λ net m. subst (λ xs. Contains xs net) (sym (append-nil (rail_nets bits))) (Contains-from_Member net m));
}
  where
    none_between : (before after : List StageCell) (cell : StageCell) → [] ≡ before ++ cell ∷ after → ⊥
    none_between [] after cell e = absurd cc
    none_between (first ∷ before) after cell e = absurd cc

-- a net of a stage is a rail of its inputs or the output of a gate
net_cases : (rails : List Rails) (cells : List StageCell) (net : ℕ) → Member net (nets_of rails cells) → Member net (rail_nets rails) ⊎ ((g : StageCell) × Member g cells × (out_of g ≡ net))
net_cases rails cells net m =
    elim (Member-append_cases net (rail_nets rails) (map out_of cells) m) [
      | inl in_rails ↦ inl in_rails
      | inr is_output ↦ inr (member_of_map out_of cells net is_output)
    ]

-- the cell at the place of a gate is the gate's
cell_of_gate : (p : PipelineData) (bank : ℕ) (g : StageCell) (c : Cell) → IsGateOf p.netlist bank g → CellAt p.netlist g.cell.0 c → IsCellOf c g
cell_of_gate p bank g c gate at =
    let same : gate.cell ≡ c = same_cell p.netlist g.cell.0 g.cell.0 gate.cell c refl gate.at at in
    subst (λ (x : Cell). IsCellOf x g) same (record { kind = gate.kind; ins = gate.ins; out = ap (λ (x : NetId). x.0) gate.out })

-- the register cell of a rail reads that rail of the stage before and the root of the bank after
abbrev pub IsRegisterBetween : PipelineData → ℕ → ℕ → Bool → Cell → Type 0
IsRegisterBetween p k j r c = IsRegisterOn c (rail_at (stage_at p k).outputs j r) (root_at p (suc k)) (rail_at (stage_at p (suc k)).inputs j r)

module _ (p : PipelineData) (shape : Shape p.netlist p) where
  -- each of the stages, with those of wires at the ends, is a stage
  pub stage_is : (k : ℕ) → k ≤ length p.banks → IsStage (stage_at p k)
  stage_is zero le =
      let (first, at) = first_bank p shape in
      let width = AllZip-long (AreInputsOf p.netlist) first.bits p.inputs (shape.inputs first at) in
      let some = has_bit p.netlist shape.is_netlist shape.free first (shape.banks 0 first at).0 in
      let few = (shape.banks 0 first at).1 in
      wires_are_stage p.inputs (omega (arith, some, width)) (omega (arith, few, width)) (inputs_differ p shape)
  stage_is (suc k) le =
      let (b, at) = slice_get-some p.banks k (omega (arith, le)) in
      elim (inner_or_last p shape k (omega (arith, le))) [
        | inl lt ↦ let (next, at_next, stage) = stage_after p shape k b at lt in stage.is_stage
        | inr last ↦
            let (bank, few) = shape.banks k b at in
            let rails = (shape.outputs k b (omega (arith, last)) at).0 in
            let width = AllZip-long (AreRailsOf p.netlist) b.bits p.outputs rails in
            let some = has_bit p.netlist shape.is_netlist shape.free b bank in
            subst IsStage (sym (last_stage p shape k last))
            (wires_are_stage p.outputs (omega (arith, some, width)) (omega (arith, few, width)) (bank_rails_differ p.netlist shape.is_netlist shape.free b bank p.outputs rails))
      ]

  -- a stage has an output for each bit of the bank after it
  pub stages_join : (k : ℕ) → k < length p.banks → length (stage_at p k).outputs ≡ length (stage_at p (suc k)).inputs
  stages_join k lt =
      let (b, at) = slice_get-some p.banks k lt in
      AllZip-long (AreInputsOf p.netlist) b.bits (stage_at p k).outputs (bank_inputs p shape k b at)
      ∙ sym (AllZip-long (AreRailsOf p.netlist) b.bits (stage_at p (suc k)).inputs (bank_rails p shape k b at))

  -- each register cell of a bank is so
  pub register_on : (k : ℕ) (b : Bank) → slice_get p.banks k ≡ Some b → (j : ℕ) (r : Bool) (c : Cell) → IsRegisterOfRail p.netlist b j r c → (j < length (stage_at p (suc k)).inputs) × IsRegisterBetween p k j r c
  register_on k b at j r c of_rail =
      let (within, out) = drives_rail p.netlist b (stage_at p (suc k)).inputs (bank_rails p shape k b at) j r c of_rail in (
        within,
        record {
          register = of_rail.of_bank.1;
          on_a = reads_rail p.netlist b (stage_at p k).outputs (bank_inputs p shape k b at) j r c of_rail;
          on_b = subst (OnPin c B) (request_is_root p shape k b at) of_rail.of_bank.2;
          out = out;
        },
      )

  -- and each rail of a bank has one
  pub register_between : (k j : ℕ) (r : Bool) → k < length p.banks → j < length (stage_at p (suc k)).inputs → SomeCell p.netlist (IsRegisterBetween p k j r)
  register_between k j r lt within =
      let (b, at) = slice_get-some p.banks k lt in
      let width = AllZip-long (AreRailsOf p.netlist) b.bits (stage_at p (suc k)).inputs (bank_rails p shape k b at) in
      let (c, of_rail) = register_of_rail p.netlist shape.is_netlist shape.free b (shape.banks k b at).0 j r (omega (arith, within, width)) in
      (place_of_rail of_rail.bit r, c, of_rail.at, (register_on k b at j r c of_rail).1)

  -- the last stage has no gates
  no_last_gate : (k : ℕ) → length p.banks ≡ suc k → (g : StageCell) → Member g (stage_at p (suc k)).cells → ⊥
  no_last_gate k last g m = none (subst (λ (s : StageData). Member g s.cells) (last_stage p shape k last) m)
    where
      none : Member g [] → ⊥
      none m = elim m [ ]

  -- a gate after a bank is a gate cell that reads its rails
  gate_after : (k : ℕ) (b : Bank) → slice_get p.banks k ≡ Some b → (g : StageCell) → Member g (stage_at p (suc k)).cells → IsGateOf p.netlist b.request.0 g
  gate_after k b at g m =
      elim (inner_or_last p shape k (slice_get_within p.banks k b at)) [
        | inl lt ↦
            let (next, at_next, stage) = stage_after p shape k b at lt in
            let (place, at_place) = slice_get-from_Contains (stage_at p (suc k)).cells g (Contains-from_Member g m) in
            stage.each place g at_place
        | inr last ↦ absurd (no_last_gate k last g m)
      ]

  pub gate_at_place : (k : ℕ) (g : StageCell) → k ≤ length p.banks → Member g (stage_at p k).cells → SomeCell p.netlist (λ c. IsCellOf c g)
  gate_at_place zero g le m = elim m [ ]
  gate_at_place (suc k) g le m =
      let (b, at) = slice_get-some p.banks k (omega (arith, le)) in
      let gate = gate_after k b at g m in
      (g.cell.0, gate.cell, gate.at, cell_of_gate p b.request.0 g gate.cell gate gate.at)

  -- the nets of the stage after a bank come from its rails
  pub stage_origin : (k net : ℕ) (b : Bank) → slice_get p.banks k ≡ Some b → Member net (nets_of (stage_at p (suc k)).inputs (stage_at p (suc k)).cells) → ComesFrom p.netlist net (RailOf b.request.0)
  stage_origin k net b at m =
      elim (net_cases (stage_at p (suc k)).inputs (stage_at p (suc k)).cells net m) [
        | inl in_rails ↦
            let (j, r, within, e) = rail-place (stage_at p (suc k)).inputs net in_rails in
            let rails = bank_rails p shape k b at in
            let width = AllZip-long (AreRailsOf p.netlist) b.bits (stage_at p (suc k)).inputs rails in
            let (c, of_rail) = register_of_rail p.netlist shape.is_netlist shape.free b (shape.banks k b at).0 j r (omega (arith, within, width)) in
            let out = (drives_rail p.netlist b (stage_at p (suc k)).inputs rails j r c of_rail).1 in
            subst (λ x. ComesFrom p.netlist x (RailOf b.request.0)) (out ∙ sym e) (rail c of_rail.of_bank)
        | inr (g, in_cells, out) ↦
            let gate = gate_after k b at g in_cells in
            subst (λ x. ComesFrom p.netlist x (RailOf b.request.0)) (ap (λ (x : NetId). x.0) gate.out ∙ out) gate.reads
      ]

  -- and a gate cell that reads a bank's rails is a gate of that stage
  pub gate_of_stage : (i : ℕ) (c : Cell) (kind : Kind) (request : ℕ) → CellAt p.netlist i c → c.kind ≡ Gate kind → ComesFrom p.netlist c.out.0 (RailOf request)
      → (k : ℕ) × (g : StageCell) × (k < length p.banks) × Member g (stage_at p (suc k)).cells × IsCellOf c g
  gate_of_stage i c kind request at_c is_gate from =
      let (k, b, at, named) = bank_named p shape request (bank_of_rail p.netlist c.out.0 (RailOf request) request refl from) in
      let reads : ComesFrom p.netlist c.out.0 (RailOf b.request.0) = subst (λ x. ComesFrom p.netlist c.out.0 (RailOf x)) (sym named) from in
      let within : k < length p.banks = slice_get_within p.banks k b at in
      elim (inner_or_last p shape k within) [
        | inl lt ↦
            let (next, at_next, stage) = stage_after p shape k b at lt in
            let (g, in_cells, place) = stage.every i kind c at_c is_gate reads in
            let m = Member-from_Contains (stage_at p (suc k)).cells g in_cells in
            (k, g, within, m, cell_of_gate p b.request.0 g c (gate_after k b at g m) (subst (λ x. CellAt p.netlist x c) (sym place) at_c))
        | inr last ↦
            let (first, at_first) = first_bank p shape in
            let count = length-map p.banks (λ (b : Bank). b.request.0) in
            let end : k + 1 ≡ length (requests p.banks) = omega (arith, last, count) in
            absurd ((shape.chained ShownOutputs (requests p.banks) first.request.0 b.request.0 shape.chain (request_at p.banks 0 first at_first) (k, end, request_at p.banks k b at)).no_gate c (Contains-from_slice_get p.netlist.cells i c at_c) (kind, is_gate) reads)
      ]
