-- What the acknowledge cells and the trees of an assembled netlist drive is read by a gate, or requests a bank, or
-- goes out.
use Rattle.ncl_assembly.proofs.Terms.{AckOf, All-member, Cell, CellAt, Contains, Contains-from_Member, Contains-from_slice_get, HasGate, IsAssembled, IsOutputPort, IsReadByGate, IsRequest, IsTied, Member, Member-append_left, Member-append_right, Member-from_Contains, Member-map, NetId, NetlistData, PipelineData, RailOf, WiredBank, WiredBit, ack_nets, cases_eq, inl, inr, map, out_of, subst, suc, sym, zero, ℕ, ◌≡◌, ◌⊎◌}
use Rattle.ncl_assembly.proofs.ListPlaces.{member_at}
use Rattle.ncl_assembly.proofs.WiredPlaces.{BankAt, wired_bank, first_root, next_root, stage_before}
use Rattle.ncl_assembly.proofs.WiredCells.{ack_role, gate_role}
use Rattle.ncl_assembly.proofs.WiredPorts.{ko_output}
use Rattle.ncl_assembly.proofs.WiredPins.{some_register}
use Rattle.ncl_assembly.proofs.CellsAreUnmixed.{gate_of_stage_only}

module _ (n : NetlistData) (p : PipelineData) (is : IsAssembled n p) where
  -- the root of a bank is `ko`, or requests the bank before it
  pub root_is_used : (k : ℕ) (b : WiredBank) → BankAt n p is k b → IsRequest n b.root.0 ⊎ IsOutputPort n b.root.0
  root_is_used zero b at = inr (subst (IsOutputPort n) (sym (first_root n p is b at)) (ko_output n p is))
  root_is_used (suc k) b at =
      let (s, before, at_s, at_before) = stage_before n p is k b at in
      inl (subst (IsRequest n) (sym (next_root n p is k before b at_before at)) (some_register n p is k before at_before))

  -- each net of the tree of a bank is tied
  net_is_tied : (k : ℕ) (b : WiredBank) → BankAt n p is k b → (net : ℕ) → Member net (ack_nets b.bits b.tree) → IsReadByGate n net ⊎ (IsRequest n net ⊎ IsOutputPort n net)
  net_is_tied k b at net m =
      let wired = wired_bank n p is k b at in
      elim (cases_eq net b.root.0) [
        | inl same ↦ inr (subst (λ x. IsRequest n x ⊎ IsOutputPort n x) (sym same) (root_is_used k b at))
        | inr other ↦
            let (g, in_tree, reads) = wired.all_read net (Contains-from_Member net m) other in
            let has = All-member (HasGate n) b.tree wired.tree g (Member-from_Contains b.tree g in_tree) in
            inl (has.cell, Contains-from_slice_get n.cells g.cell.0 has.cell has.at, (g.kind, has.kind), subst (λ l. Contains l (record { 0 = net })) (sym has.ins) reads)
      ]

  pub tied : (i : ℕ) (c : Cell) → CellAt n i c → IsTied n c
  tied i c at request (inl is_ack) from =
      let r = ack_role n p is i c at is_ack in
      let in_nets : Member r.own.bit.ack.0 (ack_nets r.bank.bits r.bank.tree) = Member-append_left r.own.bit.ack.0 (map out_of r.bank.tree) (Member-map (λ (w : WiredBit). w.ack.0) r.own.bit (member_at r.bank.bits r.own.j r.own.bit r.own.at)) in
      net_is_tied r.k r.bank r.at_bank c.out.0 (subst (λ (x : NetId). Member x.0 (ack_nets r.bank.bits r.bank.tree)) (sym r.own.on.out) in_nets)
  tied i c at request (inr is_gate) from =
      elim (gate_role n p is i c at is_gate) [
        | inl r ↦
            let in_nets : Member r.own.gate.out.0 (ack_nets r.bank.bits r.bank.tree) = Member-append_right (map (λ (w : WiredBit). w.ack.0) r.bank.bits) r.own.gate.out.0 (Member-map out_of r.own.gate (member_at r.bank.tree r.own.j r.own.gate r.own.at)) in
            net_is_tied r.k r.bank r.at_bank c.out.0 (subst (λ (x : NetId). Member x.0 (ack_nets r.bank.bits r.bank.tree)) (sym r.own.on.out) in_nets)
        | inr r ↦
            let (b, at_b, only) = gate_of_stage_only n p is i c r in
            let clash : AckOf request ≡ RailOf b.request.0 = only.only (AckOf request) from in
            absurd cc
      ]
