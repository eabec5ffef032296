-- No gate of an assembled netlist lies on a cycle: a gate that reads another stands after it in the file.
use Rattle.ncl_assembly.proofs.Terms.{Ack, All, All-member, Cell, CellAt, Contains, Contains-from_slice_get, HasGate, IsAssembled, IsCell, IsGate, IsOffCycles, LeadsTo, List, Member, Member-append_cases, Member-append_left, Member-from_Contains, NetId, NetlistData, PipelineData, Reads, ReadsNet, Register, Some, StageCell, WiredBank, WiredBit, ap, arith, divided_at, gate_numbers, here, inl, inr, map, member_of_map, more, one, out_of, place_of, rail_nets, rails_driven, refl, same_driver, same_place, slice_get, subst, sym, ℕ, ◌++◌, ◌<◌, ◌∙◌, ◌∷◌, ◌≡◌}
use Rattle.ncl_assembly.proofs.ListPlaces.{place_of_member, pairs_of_map, pairs-across, Rise}
use Rattle.ncl_assembly.proofs.WiredPlaces.{BankAt, wired_bank, wired_bit, wired_stage, bank_before, stage_driven}
use Rattle.ncl_assembly.proofs.WiredCells.{gate_role, tree_rises, stage_rises}
use Rattle.ncl_assembly.proofs.WiredOrigins.{rail_of_bits}
use Rattle.ncl_assembly.proofs.WiredPins.{cell_of_rail, rail_cell_of_bank}

module _ (n : NetlistData) (p : PipelineData) (is : IsAssembled n p) where
  -- a net that no gate drives
  abbrev IsNoOutput : ℕ → Type 0
  IsNoOutput net = (d : Cell) → IsCell n d → IsGate d → d.out.0 ≡ net → ⊥

  -- the net of a cell of another sort is driven by no gate
  other_sort : (c : Cell) → IsCell n c → (IsGate c → ⊥) → (net : ℕ) → c.out.0 ≡ net → IsNoOutput net
  other_sort c in_c other net out d in_d is_gate out_d =
      other (subst IsGate (same_driver n is.is_netlist d c in_d in_c (out_d ∙ sym out)) is_gate)

  -- in a list of gates in their order, what drives an input of a gate stands before it
  drives_before : (known : List ℕ) (cells : List StageCell) → All (HasGate n) cells → Rise (gate_numbers cells)
      → ((before after : List StageCell) (g : StageCell) → cells ≡ before ++ g ∷ after → Reads (known ++ map out_of before) g)
      → ((net : ℕ) → Member net known → IsNoOutput net)
      → (k : ℕ) (g : StageCell) → slice_get cells k ≡ Some g → (x : NetId) → Member x g.ins.items → (j : ℕ) (d : Cell) → CellAt n j d → IsGate d → d.out.0 ≡ x.0 → j < g.cell.0
  drives_before known cells all up in_order none k g at x in_ins j d at_d is_gate out =
      let (before, after, whole) = divided_at cells k g at in
      let reads = All-member (λ (x : NetId). Contains (known ++ map out_of before) x.0) g.ins.items (in_order before after g whole) x in_ins in
      elim (Member-append_cases x.0 known (map out_of before) (Member-from_Contains (known ++ map out_of before) x.0 reads)) [
        | inl first ↦ absurd (none x.0 first d (Contains-from_slice_get n.cells j d at_d) is_gate out)
        | inr later ↦
            let (h, in_before, out_h) = member_of_map out_of before x.0 later in
            let in_cells : Member h cells = subst (Member h) (sym whole) (Member-append_left h (g ∷ after) in_before) in
            let has = All-member (HasGate n) cells all h in_cells in
            let place : h.cell.0 ≡ j = same_place n is.is_netlist h.cell.0 j has.cell d has.at at_d (ap (λ (y : NetId). y.0) has.out ∙ out_h ∙ sym out) in
            let rising = pairs_of_map (λ x y. x < y) (λ (g : StageCell). g.cell.0) (before ++ g ∷ after) (subst (λ l. Rise (gate_numbers l)) whole up) in
            let less = pairs-across (λ (x y : StageCell). x.cell.0 < y.cell.0) before (g ∷ after) rising h g in_before here in
            omega (arith, less, place)
      ]

  -- no gate drives a rail of a bank, or the net of an acknowledge cell
  rail_no_output : (k : ℕ) (b : WiredBank) → BankAt n p is k b → (net : ℕ) → Member net (rail_nets (rails_driven b)) → IsNoOutput net
  rail_no_output k b at net m =
      let (j, w, r, at_w, same) = rail_of_bits (λ (w : WiredBit). w.to) b.bits net m in
      let has = cell_of_rail n p is k j b w at at_w r in
      other_sort has.cell (rail_cell_of_bank n p is k j b w at at_w r).0 (λ (kind, is_gate). let kinds : has.cell.kind ≡ Register = has.kind in absurd cc) net (ap (λ (y : NetId). y.0) has.out ∙ same)

  ack_no_output : (k : ℕ) (b : WiredBank) → BankAt n p is k b → (net : ℕ) → Member net (map (λ (w : WiredBit). w.ack.0) b.bits) → IsNoOutput net
  ack_no_output k b at net m =
      let (w, in_bits, same) = member_of_map (λ (w : WiredBit). w.ack.0) b.bits net m in
      let (j, at_w) = place_of_member b.bits w in_bits in
      let has = (wired_bit n p is k j b w at at_w).ack in
      other_sort has.cell (Contains-from_slice_get n.cells w.bit.ack.0 has.cell has.at) (λ (kind, is_gate). let kinds : has.cell.kind ≡ Ack = has.kind in absurd cc) net (ap (λ (y : NetId). y.0) has.out ∙ same)

  -- a gate that reads another stands after it
  reads_earlier : (i j : ℕ) (c d : Cell) → CellAt n i c → CellAt n j d → IsGate c → IsGate d → ReadsNet c d.out.0 → j < i
  reads_earlier i j c d at_c at_d gate_c gate_d reads =
      let read = Member-from_Contains c.ins.items (record { 0 = d.out.0 }) reads in
      elim (gate_role n p is i c at_c gate_c) [
        | inl r ↦
            let wired = wired_bank n p is r.k r.bank r.at_bank in
            let less = drives_before (map (λ (w : WiredBit). w.ack.0) r.bank.bits) r.bank.tree wired.tree (tree_rises n p is r.k r.bank r.at_bank) wired.tree_reads (ack_no_output r.k r.bank r.at_bank) r.own.j r.own.gate r.own.at (record { 0 = d.out.0 }) (subst (Member (record { 0 = d.out.0 })) r.own.on.ins read) j d at_d gate_d refl in
            omega (arith, less, r.own.number)
        | inr r ↦
            let wired = wired_stage n p is r.k r.stage r.at_stage in
            let (b, at_b) = bank_before n p is r.k r.stage r.at_stage in
            let driven = stage_driven n p is r.k r.stage b r.at_stage at_b in
            let less = drives_before (rail_nets r.stage.inputs) r.stage.cells wired.gates (stage_rises n p is r.k r.stage r.at_stage) wired.is_stage.in_order
            (λ net m. rail_no_output r.k b at_b net (subst (λ l. Member net (rail_nets l)) (sym driven) m)) r.own.j r.own.gate r.own.at (record { 0 = d.out.0 }) (subst (Member (record { 0 = d.out.0 })) r.own.on.ins read) j d at_d gate_d refl in
            omega (arith, less, r.own.number)
      ]

  -- so does the end of a path of gates after its beginning
  leads_up : (x y : ℕ) → LeadsTo n x y → (i j : ℕ) (c d : Cell) → CellAt n i c → CellAt n j d → IsGate c → IsGate d → d.out.0 ≡ x → c.out.0 ≡ y → j < i
  leads_up x y (one b in_b gate_b reads) i j c d at_c at_d gate_c gate_d out_d out_c =
      let same : b ≡ c = same_driver n is.is_netlist b c in_b (Contains-from_slice_get n.cells i c at_c) (sym out_c) in
      let read : ReadsNet c d.out.0 = subst (ReadsNet c) (sym out_d) (subst (λ (z : Cell). ReadsNet z x) same reads) in
      reads_earlier i j c d at_c at_d gate_c gate_d read
  leads_up x y (more b in_b gate_b reads path) i j c d at_c at_d gate_c gate_d out_d out_c =
      let (k, at_b) = place_of n b in_b in
      let first = reads_earlier k j b d at_b at_d gate_b gate_d (subst (ReadsNet b) (sym out_d) reads) in
      let rest = leads_up b.out.0 y path i k c b at_c at_b gate_c gate_b refl out_c in
      omega (arith, first, rest)

  pub off_cycles : (k : ℕ) (c : Cell) → CellAt n k c → IsOffCycles n c
  off_cycles k c at is_gate leads = let less = leads_up c.out.0 c.out.0 leads k k c c at at is_gate is_gate refl refl in omega (arith, less)
