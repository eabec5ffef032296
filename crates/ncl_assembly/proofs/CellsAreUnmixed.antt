-- What each cell of an assembled netlist reads has one origin.
use Rattle.ncl_assembly.proofs.Terms.{AckOf, All-at, B, Cell, CellAt, ComesFrom, FromPort, Gate, HasOnlyOrigin, HaveSameOrigins, IsAssembled, IsCell, IsDataBank, IsFromOneAck, IsFromOneRail, IsGateOfOne, IsInputPort, IsOfBank, IsRegister, IsRegisterOfOne, IsTreeKind, IsUnmixed, Kind, Member, Member-append_right, Member-map, NetId, NetlistData, Origin, PipelineData, RST, RailOf, StageCell, WiredBank, WiredBit, ack_nets, ap, both_ways, data_is_register, false, false_from_ne_true, inl, inr, is_data_register, map, nets_of, out_of, place_of, rail_nets, rails_read, same_net, subst, suc, sym, true, zero, ℕ, ◌≡◌}
use Rattle.ncl_assembly.proofs.ListPlaces.{member_at}
use Rattle.ncl_assembly.proofs.WiredPlaces.{BankAt, wired_bank, bank_before, next_or_last}
use Rattle.ncl_assembly.proofs.WiredCells.{TreeAt, GateAt, register_role, gate_role}
use Rattle.ncl_assembly.proofs.WiredPorts.{rst_port}
use Rattle.ncl_assembly.proofs.WiredOrigins.{port_only, stage_only, tree_only, request_only, last_request_port}
use Rattle.ncl_assembly.proofs.WiredPins.{on_b, on_rst, read_by_bank, read_at, read_first, read_next}

module _ (n : NetlistData) (p : PipelineData) (is : IsAssembled n p) where
  -- the output of a gate of a stage comes from the rails of the bank before it alone
  pub gate_of_stage_only : (i : ℕ) (c : Cell) → (r : GateAt n p is i c) → (b : WiredBank) × BankAt n p is r.k b × HasOnlyOrigin n c.out.0 (RailOf b.request.0)
  gate_of_stage_only i c r =
      let (b, at) = bank_before n p is r.k r.stage r.at_stage in
      let in_nets : Member r.own.gate.out.0 (nets_of r.stage.inputs r.stage.cells) = Member-append_right (rail_nets r.stage.inputs) r.own.gate.out.0 (Member-map out_of r.own.gate (member_at r.stage.cells r.own.j r.own.gate r.own.at)) in
      (b, at, subst (λ (x : NetId). HasOnlyOrigin n x.0 (RailOf b.request.0)) (sym r.own.on.out) (stage_only n p is r.k r.stage b r.at_stage at r.own.gate.out.0 in_nets))

  -- and that of a cell of a tree from the acknowledge cells of its bank alone
  pub cell_of_tree_only : (i : ℕ) (c : Cell) → (r : TreeAt n p is i c) → HasOnlyOrigin n c.out.0 (AckOf r.bank.request.0)
  cell_of_tree_only i c r =
      let in_nets : Member r.own.gate.out.0 (ack_nets r.bank.bits r.bank.tree) = Member-append_right (map (λ (w : WiredBit). w.ack.0) r.bank.bits) r.own.gate.out.0 (Member-map out_of r.own.gate (member_at r.bank.tree r.own.j r.own.gate r.own.at)) in
      subst (λ (x : NetId). HasOnlyOrigin n x.0 (AckOf r.bank.request.0)) (sym r.own.on.out) (tree_only n p is r.k r.bank r.at_bank r.own.gate.out.0 in_nets)

  gate_of_one : (i : ℕ) (c : Cell) → CellAt n i c → (kind : Kind) → c.kind ≡ Gate kind → IsGateOfOne n kind c
  gate_of_one i c at kind is_gate =
      elim (gate_role n p is i c at (kind, is_gate)) [
        | inl r ↦
            let kinds : c.kind ≡ Gate r.own.gate.kind = r.own.on.kind in
            let same : r.own.gate.kind ≡ kind = cc in
            let tree = All-at (λ (g : StageCell). IsTreeKind g.kind) r.bank.tree (wired_bank n p is r.k r.bank r.at_bank).tree_kinds r.own.j r.own.gate r.own.at in
            inr (r.bank.request.0, cell_of_tree_only i c r, subst IsTreeKind same tree)
        | inr r ↦ let (b, at_b, only) = gate_of_stage_only i c r in inl (b.request.0, only)
      ]

  -- a request is an input port, or comes from the acknowledge cells of one bank
  request_of_one : (k : ℕ) (b : WiredBank) → BankAt n p is k b → IsFromOneAck n b.request.0
  request_of_one k b at =
      elim (next_or_last n p is k b at) [
        | inl (s, next, at_s, at_next) ↦ inr (next.request.0, request_only n p is k b next at at_next)
        | inr last ↦ inl (last_request_port n p is k b at last)
      ]

  -- so is what a bank reads, of the rails of one bank
  read_of_one : (k : ℕ) (b : WiredBank) → BankAt n p is k b → (net : ℕ) → Member net (rail_nets (rails_read b)) → IsFromOneRail n net
  read_of_one zero b at net m = inl (read_first n p is b at net m)
  read_of_one (suc k) b at net m = let (before, at_before, only) = read_next n p is k b at net m in inr (before.request.0, only)

  same_from_only : (x y : ℕ) (origin : Origin) → HasOnlyOrigin n x origin → HasOnlyOrigin n y origin → HaveSameOrigins n x y
  same_from_only x y origin of_x of_y = record {
    to = λ o from. subst (ComesFrom n y) (sym (of_x.only o from)) of_y.comes;
    from = λ o from. subst (ComesFrom n x) (sym (of_y.only o from)) of_x.comes;
  }

  -- and all that a bank reads has the same origins
  read_alike : (k : ℕ) (b : WiredBank) → BankAt n p is k b → (x y : ℕ) → Member x (rail_nets (rails_read b)) → Member y (rail_nets (rails_read b)) → HaveSameOrigins n x y
  read_alike zero b at x y in_x in_y =
      same_from_only x y FromPort (port_only n is.is_netlist x (read_first n p is b at x in_x)) (port_only n is.is_netlist y (read_first n p is b at y in_y))
  read_alike (suc k) b at x y in_x in_y =
      let (before, at_before, of_x) = read_next n p is k b at x in_x in
      let (also, at_also, of_y) = read_next n p is k b at y in_y in
      let same : also ≡ before = cc in
      same_from_only x y (RailOf before.request.0) of_x (subst (λ (z : WiredBank). HasOnlyOrigin n y (RailOf z.request.0)) same of_y)

  register_of_one : (i : ℕ) (c : Cell) → CellAt n i c → IsRegister c → IsRegisterOfOne n c
  register_of_one i c at register =
      let r = register_role n p is i c at register in
      record {
        reset = λ net on. subst (IsInputPort n) (same_net c RST is.rst.0 net (on_rst n p is i c r) on) (rst_port n p is);
        request = λ net on. subst (IsFromOneAck n) (same_net c B r.bank.request.0 net (on_b n p is i c r) on) (request_of_one r.k r.bank r.at_bank);
        rail = λ net on. read_of_one r.k r.bank r.at_bank net (read_by_bank n p is i c r net on);
        bank = λ request net first_net first on_request is_first on on_first.
            let named : r.bank.request.0 ≡ request = same_net c B r.bank.request.0 request (on_b n p is i c r) on_request in
            let of_bank : IsOfBank n r.bank.request.0 first = subst (λ z. IsOfBank n z first) (sym named) is_first.of_bank in
            read_alike r.k r.bank r.at_bank net first_net (read_by_bank n p is i c r net on) (read_at n p is r.k r.bank r.at_bank first of_bank first_net on_first);
      }

  -- no cell is reset to 1
  pub no_data_cell : (c : Cell) → IsCell n c → is_data_register c.kind ≡ false
  no_data_cell c in_cells = false_from_ne_true (is_data_register c.kind) plain
    where
      plain : is_data_register c.kind ≡ true → ⊥
      plain data_is =
          let (i, at) = place_of n c in_cells in
          let r = register_role n p is i c at (data_is_register c.kind data_is) in
          both_ways (is_data_register c.kind) (ap is_data_register r.own.on.kind) data_is

  -- so no bank is reset to DATA
  pub no_data_bank : (request : ℕ) → IsDataBank n request → ⊥
  no_data_bank request (c, of_bank, data_is) = both_ways (is_data_register c.kind) (no_data_cell c of_bank.0) data_is

  pub unmixed : (k : ℕ) (c : Cell) → CellAt n k c → IsUnmixed n c
  unmixed k c at = record { gate = gate_of_one k c at; register = register_of_one k c at; ack = λ is_ack request acks data_is. absurd (no_data_bank request data_is) }
