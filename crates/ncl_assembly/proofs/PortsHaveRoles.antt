-- Each input port of an assembled netlist has one role: it is on A of one register cell, or on B, or on RST.
use Rattle.ncl_assembly.proofs.Terms.{A, AckOf, B, Bool, Cell, CellAt, Contains-from_slice_get, FromPort, HasOneRole, HasOnlyOrigin, IsAssembled, IsCell, IsGate, IsInputPort, List, Member, NetId, NetlistData, OnPin, OnPinNamed, Origin, PipelineData, RST, RailOf, Rails, ReadsNet-from_pin, Register, Some, WiredBank, WiredBit, [], ap, arith, false, flat_map, gate, here, inl, inr, map, pairs-head, pins_of, place_of, port, rail_nets, rails_read, refl, same_net, slice_get, subst, suc, sym, there, true, zero, ℕ, ◌<◌, ◌∙◌, ◌∷◌, ◌≡◌}
use Rattle.ncl_assembly.proofs.ListPlaces.{member_at, pairs_of_part, Rise, part_is_one}
use Rattle.ncl_assembly.proofs.WiredPlaces.{BankAt, next_or_last, first_reads, last_request}
use Rattle.ncl_assembly.proofs.WiredCells.{register_of, net_of_rail, RegisterAt, AckAt, Role, to_keep, to_acknowledge, to_complete, to_compute, role_of}
use Rattle.ncl_assembly.proofs.WiredPorts.{input_rails_rise, input_is_not_ki, input_is_not_rst, ki_is_not_rst}
use Rattle.ncl_assembly.proofs.WiredOrigins.{rail_among, driven_only, request_only}
use Rattle.ncl_assembly.proofs.WiredPins.{on_a, on_b, on_rst, read_by_bank, read_next}
use Rattle.ncl_assembly.proofs.CellsAreUnmixed.{gate_of_stage_only, cell_of_tree_only}
use Rattle.ncl_assembly.proofs.BanksFollow.{same_bank}

-- the nets of the rails of bits, bit by bit
abbrev two_rails : (WiredBit → Rails) → WiredBit → List ℕ
two_rails rails w = (rails w).zero.0 ∷ (rails w).one.0 ∷ []

rails_by_bit : (rails : WiredBit → Rails) (bits : List WiredBit) → rail_nets (map rails bits) ≡ flat_map (two_rails rails) bits
rails_by_bit rails [] = refl
rails_by_bit rails (w ∷ bits) = ap (λ l. (rails w).zero.0 ∷ (rails w).one.0 ∷ l) (rails_by_bit rails bits)

rail_in_bit : (rails : WiredBit → Rails) (w : WiredBit) (r : Bool) → Member (net_of_rail (rails w) r).0 (two_rails rails w)
rail_in_bit rails w true = there here
rail_in_bit rails w false = here

-- where rails rise, a net is one rail of one bit
rail_is_one : (rails : WiredBit → Rails) (bits : List WiredBit) → Rise (rail_nets (map rails bits)) → (i j : ℕ) (w v : WiredBit) (r q : Bool) → slice_get bits i ≡ Some w → slice_get bits j ≡ Some v → (net_of_rail (rails w) r).0 ≡ (net_of_rail (rails v) q).0 → (i ≡ j) × (r ≡ q)
rail_is_one rails bits up i j w v r q at_w at_v same = (places, by r q both)
  where
    rises : Rise (flat_map (two_rails rails) bits)
    rises = subst Rise (rails_by_bit rails bits) up

    places : i ≡ j
    places =
        part_is_one (two_rails rails) bits rises i j w v (net_of_rail (rails w) r).0 at_w at_v (rail_in_bit rails w r) (subst (λ z. Member z (two_rails rails v)) (sym same) (rail_in_bit rails v q))

    both : (net_of_rail (rails w) r).0 ≡ (net_of_rail (rails w) q).0
    both =
        let moved : slice_get bits j ≡ Some w = subst (λ z. slice_get bits z ≡ Some w) places at_w in
        let one : v ≡ w = cc in
        same ∙ ap (λ (z : WiredBit). (net_of_rail (rails z) q).0) one

    less : (rails w).zero.0 < (rails w).one.0
    less = pairs-head (λ x y. x < y) (rails w).zero.0 ((rails w).one.0 ∷ []) (pairs_of_part (λ x y. x < y) (two_rails rails) w rises (member_at bits i w at_w)) (rails w).one.0 here

    by : (r q : Bool) → (net_of_rail (rails w) r).0 ≡ (net_of_rail (rails w) q).0 → r ≡ q
    by true true nets = refl
    by false false nets = refl
    by true false nets = let grows = less in absurd (omega (arith, grows, nets))
    by false true nets = let grows = less in absurd (omega (arith, grows, nets))

module _ (n : NetlistData) (p : PipelineData) (is : IsAssembled n p) where
  -- what an input port is for, by the pin of register cells that it is on
  data UseOf (net : ℕ) : ℕ → Type 0 where
    input : Member net (rail_nets p.inputs) → UseOf net A
    request : p.ki ≡ net → UseOf net B
    reset : is.rst.0 ≡ net → UseOf net RST

  one_use : (net x y : ℕ) → UseOf net x → UseOf net y → x ≡ y
  one_use net x y (input m) (input k) = refl
  one_use net x y (input m) (request same) = absurd (input_is_not_ki n p is (subst (λ z. Member z (rail_nets p.inputs)) (sym same) m))
  one_use net x y (input m) (reset same) = absurd (input_is_not_rst n p is (subst (λ z. Member z (rail_nets p.inputs)) (sym same) m))
  one_use net x y (request same) (input m) = absurd (input_is_not_ki n p is (subst (λ z. Member z (rail_nets p.inputs)) (sym same) m))
  one_use net x y (request same) (request also) = refl
  one_use net x y (request same) (reset also) = absurd (ki_is_not_rst n p is (same ∙ sym also))
  one_use net x y (reset same) (input m) = absurd (input_is_not_rst n p is (subst (λ z. Member z (rail_nets p.inputs)) (sym same) m))
  one_use net x y (reset same) (request also) = absurd (ki_is_not_rst n p is (also ∙ sym same))
  one_use net x y (reset same) (reset also) = refl

  module _ (net : ℕ) (is_port : IsInputPort n net) where
    -- a port does not come from a bank
    no_rail : (bank : ℕ) → HasOnlyOrigin n net (RailOf bank) → ⊥
    no_rail bank only = let clash : FromPort ≡ RailOf bank = only.only FromPort (port is_port) in absurd cc

    -- so no gate reads it
    no_gate : (c : Cell) (pin : ℕ) (origin : Origin) → IsCell n c → IsGate c → OnPin c pin net → HasOnlyOrigin n c.out.0 origin → FromPort ≡ origin
    no_gate c pin origin in_c is_gate on only = only.only FromPort (gate c in_c is_gate (ReadsNet-from_pin c pin net on) (port is_port))

    -- and no acknowledge cell does
    no_driven : (i : ℕ) (c : Cell) (a : AckAt n p is i c) (r : Bool) → (net_of_rail a.own.bit.to r).0 ≡ net → ⊥
    no_driven i c a r same =
        let only = driven_only n p is a.k a.bank a.at_bank (net_of_rail a.own.bit.to r).0 (rail_among (λ (w : WiredBit). w.to) a.bank.bits a.own.j a.own.bit r a.own.at) in
        no_rail a.bank.request.0 (subst (λ z. HasOnlyOrigin n z (RailOf a.bank.request.0)) same only)

    no_ack : (i : ℕ) (c : Cell) (a : AckAt n p is i c) (pin : ℕ) → slice_get (a.own.bit.to.zero ∷ a.own.bit.to.one ∷ []) pin ≡ Some (record { 0 = net }) → ⊥
    no_ack i c a zero on = let same : a.own.bit.to.zero ≡ record { 0 = net } = cc in no_driven i c a false (ap (λ (z : NetId). z.0) same)
    no_ack i c a (suc zero) on = let same : a.own.bit.to.one ≡ record { 0 = net } = cc in no_driven i c a true (ap (λ (z : NetId). z.0) same)
    no_ack i c a (suc (suc pin)) on = absurd cc

    -- a register cell that reads it does so on the pin of its use
    use_of_pin : (i : ℕ) (c : Cell) (r : RegisterAt n p is i c) (pin : ℕ) → OnPin c pin net → UseOf net pin
    use_of_pin i c r zero on = input (by r.k r.bank r.at_bank (read_by_bank n p is i c r net on))
      where
        by : (k : ℕ) (b : WiredBank) → BankAt n p is k b → Member net (rail_nets (rails_read b)) → Member net (rail_nets p.inputs)
        by zero b at m = subst (λ l. Member net (rail_nets l)) (first_reads n p is b at) m
        by (suc k) b at m = let (before, at_before, only) = read_next n p is k b at net m in absurd (no_rail before.request.0 only)
    use_of_pin i c r (suc zero) on =
        let named : r.bank.request.0 ≡ net = same_net c B r.bank.request.0 net (on_b n p is i c r) on in
        elim (next_or_last n p is r.k r.bank r.at_bank) [
          | inl (s, after, at_s, at_after) ↦
              let clash : FromPort ≡ AckOf after.request.0 = (request_only n p is r.k r.bank after r.at_bank at_after).only FromPort (port (subst (IsInputPort n) (sym named) is_port)) in
              absurd cc
          | inr whole ↦ request (sym (last_request n p is r.k r.bank r.at_bank whole) ∙ named)
        ]
    use_of_pin i c r (suc (suc zero)) on = reset (same_net c RST is.rst.0 net (on_rst n p is i c r) on)
    use_of_pin i c r (suc (suc (suc pin))) on =
        let none = sym (ap (λ l. slice_get l (suc (suc (suc pin)))) r.own.on.ins) ∙ on in
        absurd cc

    -- so a cell that reads it is a register cell that does so
    read_by_register : (i : ℕ) (c : Cell) → CellAt n i c → (pin : ℕ) → OnPin c pin net → RegisterAt n p is i c × UseOf net pin
    read_by_register i c at pin on = by (role_of n p is i c at)
      where
        in_c : IsCell n c
        in_c = Contains-from_slice_get n.cells i c at

        by : Role n p is i c → RegisterAt n p is i c × UseOf net pin
        by (to_keep r) = (r, use_of_pin i c r pin on)
        by (to_acknowledge a) = absurd (no_ack i c a pin (sym (ap (λ l. slice_get l pin) a.own.on.ins) ∙ on))
        by (to_complete r) =
            let clash = no_gate c pin (AckOf r.bank.request.0) in_c (r.own.gate.kind, r.own.on.kind) on (cell_of_tree_only n p is i c r) in
            absurd cc
        by (to_compute r) =
            let (b, at_b, only) = gate_of_stage_only n p is i c r in
            let clash = no_gate c pin (RailOf b.request.0) in_c (r.own.gate.kind, r.own.on.kind) on only in
            absurd cc

    one_name : (c d : Cell) (x y : List ℕ) → IsCell n c → IsCell n d → OnPinNamed c x net → OnPinNamed d y net → x ≡ y
    one_name c d x y in_c in_d (pin, named, on) (also, named_too, on_too) =
        let (i, at_c) = place_of n c in_c in
        let (j, at_d) = place_of n d in_d in
        let (r, used) = read_by_register i c at_c pin on in
        let (s, also_used) = read_by_register j d at_d also on_too in
        let pins : pin ≡ also = one_use net pin also used also_used in
        let of_c : slice_get (pins_of Register) pin ≡ Some x = ap (λ k. slice_get (pins_of k) pin) (sym r.own.on.kind) ∙ named in
        let of_d : slice_get (pins_of Register) also ≡ Some y = ap (λ k. slice_get (pins_of k) also) (sym s.own.on.kind) ∙ named_too in
        let both : Some x ≡ Some y = sym of_c ∙ ap (slice_get (pins_of Register)) pins ∙ of_d in
        cc

    -- and on A it is one of the first bank
    of_first : (i : ℕ) (c : Cell) (r : RegisterAt n p is i c) → OnPin c A net → r.k ≡ zero
    of_first i c r on = by r.k r.bank r.at_bank (read_by_bank n p is i c r net on)
      where
        by : (k : ℕ) (b : WiredBank) → BankAt n p is k b → Member net (rail_nets (rails_read b)) → k ≡ zero
        by zero b at m = refl
        by (suc k) b at m = let (before, at_before, only) = read_next n p is k b at net m in absurd (no_rail before.request.0 only)

    one_rail : (c d : Cell) → IsCell n c → IsCell n d → OnPin c A net → OnPin d A net → c ≡ d
    one_rail c d in_c in_d on also =
        let (i, at_c) = place_of n c in_c in
        let (j, at_d) = place_of n d in_d in
        let (r, used) = read_by_register i c at_c A on in
        let (s, also_used) = read_by_register j d at_d A also in
        by i j at_c at_d r s (of_first i c r on) (of_first j d s also)
      where
        by : (i j : ℕ) → CellAt n i c → CellAt n j d → (r : RegisterAt n p is i c) (s : RegisterAt n p is j d) → r.k ≡ zero → s.k ≡ zero → c ≡ d
        by i j at_c at_d r s first_r first_s =
            let one : s.bank ≡ r.bank = same_bank n p is s.k r.k s.bank r.bank s.at_bank r.at_bank (first_s ∙ sym first_r) in
            let first : BankAt n p is zero r.bank = subst (λ z. BankAt n p is z r.bank) first_r r.at_bank in
            let rises : Rise (rail_nets (rails_read r.bank)) = subst (λ l. Rise (rail_nets l)) (sym (first_reads n p is r.bank first)) (input_rails_rise n p is) in
            let at_s : slice_get r.bank.bits s.own.j ≡ Some s.own.bit = subst (λ (z : WiredBank). slice_get z.bits s.own.j ≡ Some s.own.bit) one s.own.at in
            let nets : (net_of_rail r.own.bit.from r.own.rail).0 ≡ (net_of_rail s.own.bit.from s.own.rail).0 = same_net c A (net_of_rail r.own.bit.from r.own.rail).0 net (on_a n p is i c r) on ∙ same_net d A net (net_of_rail s.own.bit.from s.own.rail).0 also (on_a n p is j d s) in
            let (places, sides) = rail_is_one (λ (w : WiredBit). w.from) r.bank.bits rises r.own.j s.own.j r.own.bit s.own.bit r.own.rail s.own.rail r.own.at at_s nets in
            let at_r : slice_get r.bank.bits s.own.j ≡ Some r.own.bit = subst (λ z. slice_get r.bank.bits z ≡ Some r.own.bit) places r.own.at in
            let bits : r.own.bit ≡ s.own.bit = cc in
            let numbers : i ≡ j = sym r.own.number ∙ ap (λ (z : WiredBit). (register_of z.bit r.own.rail).0) bits ∙ ap (λ z. (register_of s.own.bit.bit z).0) sides ∙ s.own.number in
            let moved : CellAt n j c = subst (λ z. CellAt n z c) numbers at_c in
            cc

    roles : HasOneRole n net
    roles = record { one_name = one_name; one_rail = one_rail }

  pub one_role : (net : ℕ) → IsInputPort n net → HasOneRole n net
  one_role net is_port = roles net is_port
