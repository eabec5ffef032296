-- Each bank of an assembled netlist has one root, and what goes out are the rails of the last bank and the root of the
-- first.
use Rattle.ncl_assembly.proofs.Terms.{AckOf, Cell, ComesFrom, FromPort, HasOne, HasRoots, IsAssembled, IsCell, IsClosed, IsEnd, IsGate, IsHead, IsOutputPort, IsRequest, IsRoot, IsShown, Member, NetId, NetlistData, PipelineData, RailOf, WiredBank, WiredBit, ap, arith, inl, inr, length, place_of, port_origin, rail_nets, rails_driven, slice_get-from_Contains, slice_get_within, subst, suc, sym, zero, ℕ, ◌∙◌, ◌≡◌}
use Rattle.ncl_assembly.proofs.WiredPlaces.{BankAt, as_many, first_bank, next_or_last, first_root, next_root, last_driven}
use Rattle.ncl_assembly.proofs.WiredCells.{gate_role}
use Rattle.ncl_assembly.proofs.WiredPorts.{output_cases, rail_output, ko_output}
use Rattle.ncl_assembly.proofs.WiredOrigins.{rail_of_bits, driven_only, root_only, request_only, last_request_port, requests_differ}
use Rattle.ncl_assembly.proofs.WiredPins.{last_bank, cell_of_rail, rail_cell_of_bank, role_in_bank, bank_of_request, driven_by_bank}
use Rattle.ncl_assembly.proofs.CellsAreUnmixed.{gate_of_stage_only, cell_of_tree_only}
use Rattle.ncl_assembly.proofs.AcksAreTied.{root_is_used}
use Rattle.ncl_assembly.proofs.BanksFollow.{requests_of, at_request, as_many_requests, same_bank}

module _ (n : NetlistData) (p : PipelineData) (is : IsAssembled n p) where
  pub root_is : (k : ℕ) (b : WiredBank) → BankAt n p is k b → IsRoot n b.request.0 b.root.0
  root_is k b at = record { acks = (root_only n p is k b at).comes; used = root_is_used n p is k b at }

  -- a request that comes from the tree of a bank is its root
  request_is_root : (k : ℕ) (b : WiredBank) → BankAt n p is k b → (net : ℕ) → ComesFrom n net (AckOf b.request.0) → IsRequest n net → net ≡ b.root.0
  request_is_root k b at net from (c, of_bank) =
      let (j, d, at_d, named) = bank_of_request n p is net c of_bank in
      elim (next_or_last n p is j d at_d) [
        | inl (s, after, at_s, at_after) ↦
            let origins : AckOf b.request.0 ≡ AckOf after.request.0 = (request_only n p is j d after at_d at_after).only (AckOf b.request.0) (subst (λ z. ComesFrom n z (AckOf b.request.0)) (sym named) from) in
            let requests : b.request.0 ≡ after.request.0 = cc in
            let one = same_bank n p is (suc j) k after b at_after at (requests_differ n p is (suc j) k after b at_after at (sym requests)) in
            sym named ∙ sym (next_root n p is j d after at_d at_after) ∙ ap (λ (z : WiredBank). z.root.0) one
        | inr whole ↦
            let clash : AckOf b.request.0 ≡ FromPort = port_origin n is.is_netlist d.request.0 (AckOf b.request.0) (last_request_port n p is j d at_d whole) (subst (λ z. ComesFrom n z (AckOf b.request.0)) (sym named) from) in
            absurd cc
      ]

  -- and so is an output port that does
  output_is_root : (k : ℕ) (b : WiredBank) → BankAt n p is k b → (net : ℕ) → ComesFrom n net (AckOf b.request.0) → IsOutputPort n net → net ≡ b.root.0
  output_is_root k b at net from output =
      elim (output_cases n p is net output) [
        | inl rail ↦
            let (j, d, at_d, whole) = last_bank n p is in
            let driven : Member net (rail_nets (rails_driven d)) = subst (λ l. Member net (rail_nets l)) (sym (last_driven n p is j d at_d whole)) rail in
            let clash : AckOf b.request.0 ≡ RailOf d.request.0 = (driven_only n p is j d at_d net driven).only (AckOf b.request.0) from in
            absurd cc
        | inr ko ↦
            let (d, at_d) = first_bank n p is in
            let root : d.root.0 ≡ net = first_root n p is d at_d ∙ ko in
            let origins : AckOf b.request.0 ≡ AckOf d.request.0 = (root_only n p is zero d at_d).only (AckOf b.request.0) (subst (λ z. ComesFrom n z (AckOf b.request.0)) (sym root) from) in
            let requests : b.request.0 ≡ d.request.0 = cc in
            let one = same_bank n p is zero k d b at_d at (requests_differ n p is zero k d b at_d at (sym requests)) in
            sym root ∙ ap (λ (z : WiredBank). z.root.0) one
      ]

  pub root_is_one : (k : ℕ) (b : WiredBank) → BankAt n p is k b → (net : ℕ) → IsRoot n b.request.0 net → net ≡ b.root.0
  root_is_one k b at net root =
      elim root.used [
        | inl request ↦ request_is_root k b at net root.acks request
        | inr output ↦ output_is_root k b at net root.acks output
      ]

  pub rooted : HasRoots n (requests_of p)
  rooted = record {
    one_each = λ bank met.
        let (k, at) = slice_get-from_Contains (requests_of p) bank met in
        let (b, at_b, named) = at_request n p is k bank at in
        subst (λ z. HasOne (IsRoot n z)) named (record { one = b.root.0; is = root_is k b at_b; only = root_is_one k b at_b });
    first = λ bank root at is_root.
        let (b, at_b, named) = at_request n p is zero bank at in
        let same = root_is_one zero b at_b root (subst (λ z. IsRoot n z root) (sym named) is_root) in
        subst (IsOutputPort n) (sym (same ∙ first_root n p is b at_b)) (ko_output n p is);
  }

  module _ (first last : WiredBank) (k : ℕ) (at_first : BankAt n p is zero first) (at_last : BankAt n p is k last) (whole : suc k ≡ length is.wired) where
    shown_goes_out : (net : ℕ) → IsShown n first.request.0 last.request.0 net → IsOutputPort n net
    shown_goes_out net (inl (c, of_last, out)) =
        let (i, at, (r, named)) = role_in_bank n p is last.request.0 c of_last in
        let one = same_bank n p is r.k k r.bank last r.at_bank at_last (requests_differ n p is r.k k r.bank last r.at_bank at_last named) in
        let driven : Member c.out.0 (rail_nets (rails_driven last)) = subst (λ (z : WiredBank). Member c.out.0 (rail_nets (rails_driven z))) one (driven_by_bank n p is i c r) in
        subst (IsOutputPort n) out (rail_output n p is c.out.0 (subst (λ l. Member c.out.0 (rail_nets l)) (last_driven n p is k last at_last whole) driven))
    shown_goes_out net (inr root) = subst (IsOutputPort n) (sym (root_is_one zero first at_first net root ∙ first_root n p is first at_first)) (ko_output n p is)

    output_is_shown : (net : ℕ) → IsOutputPort n net → IsShown n first.request.0 last.request.0 net
    output_is_shown net output =
        elim (output_cases n p is net output) [
          | inl rail ↦
              let driven : Member net (rail_nets (rails_driven last)) = subst (λ l. Member net (rail_nets l)) (sym (last_driven n p is k last at_last whole)) rail in
              let (j, w, r, at_w, same) = rail_of_bits (λ (w : WiredBit). w.to) last.bits net driven in
              let has = cell_of_rail n p is k j last w at_last at_w r in
              inl (has.cell, rail_cell_of_bank n p is k j last w at_last at_w r, ap (λ (z : NetId). z.0) has.out ∙ same)
          | inr ko ↦ inr (subst (IsRoot n first.request.0) (first_root n p is first at_first ∙ ko) (root_is zero first at_first))
        ]

    no_gate_after : (c : Cell) → IsCell n c → IsGate c → ComesFrom n c.out.0 (RailOf last.request.0) → ⊥
    no_gate_after c in_c is_gate from =
        let (i, at) = place_of n c in_c in
        elim (gate_role n p is i c at is_gate) [
          | inl r ↦ let clash : RailOf last.request.0 ≡ AckOf r.bank.request.0 = (cell_of_tree_only n p is i c r).only (RailOf last.request.0) from in absurd cc
          | inr r ↦
              let (b, at_b, only) = gate_of_stage_only n p is i c r in
              let origins : RailOf last.request.0 ≡ RailOf b.request.0 = only.only (RailOf last.request.0) from in
              let requests : last.request.0 ≡ b.request.0 = cc in
              let places = requests_differ n p is k r.k last b at_last at_b requests in
              let within = slice_get_within p.stages r.k r.stage r.at_stage in
              let many = as_many n p is in
              absurd (omega (arith, places, within, many, whole))
        ]

    closed_between : IsClosed n first.request.0 last.request.0
    closed_between = record { shown = shown_goes_out; ports = output_is_shown; no_gate = no_gate_after }

  pub closed : (first last : ℕ) → IsHead (requests_of p) first → IsEnd (requests_of p) last → IsClosed n first last
  closed first last head (k, whole, at) =
      let (b, at_b, named) = at_request n p is zero first head in
      let (d, at_d, also) = at_request n p is k last at in
      let count = as_many_requests n p is in
      subst (λ z. IsClosed n z last) named (subst (IsClosed n b.request.0) also (closed_between b d k at_b at_d (omega (arith, whole, count))))
