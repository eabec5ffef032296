-- Where the first five rules hold each net has one origin, and a completion cell reads nets of one bank's tree.
use Rattle.ncl_cell_rules.proofs.Terms.{A, AckOf, AcksBank, All-contains, B, Cell, ComesFrom, Contains-from_Member, Gate, IsCell, IsFree, IsGate, IsNetlist, IsOfBank, IsRequest, IsTreeKind, Kind, Member, NetId, NetlistData, Origin, RailOf, ack, ap, arith, arity_of, gate, inl, inr, length, pins_of, port, rail, refl, subst, sym, th22, th33, th44, ℕ, ◌+◌, ◌<◌, ◌∙◌, ◌≡◌}
use Rattle.ncl_cell_rules.proofs.Drivers.{cell_fits, same_driver}
use Rattle.ncl_cell_rules.proofs.OriginLaws.{place_of, port_origin, register_origin, ack_origin, ack_of_bank, has_origin}
use Rattle.ncl_cell_rules.proofs.CellTests.{same_net}

-- a gate of a completion tree has as many pins as inputs, and Z
pub pins_of_tree : (kind : Kind) → IsTreeKind kind → length (pins_of (Gate kind)) ≡ arity_of kind + 1
pins_of_tree kind th22 = refl
pins_of_tree kind th33 = refl
pins_of_tree kind th44 = refl

module _ (n : NetlistData) (is : IsNetlist n) where
  -- a register cell is of one bank
  pub bank_is_one : (c : Cell) (x y : ℕ) → IsOfBank n x c → IsOfBank n y c → x ≡ y
  bank_is_one c x y of_x of_y = same_net c B x y of_x.2 of_y.2

  -- and an acknowledge cell acknowledges one
  pub acked_is_one : (c : Cell) (x y : ℕ) → AcksBank n x c → AcksBank n y c → x ≡ y
  acked_is_one c x y (in_c, is_ack, (r, of_x, on_r)) (also_in_c, also_ack, (q, of_y, on_q)) =
      let same : q ≡ r = same_driver n is q r of_y.0 of_x.0 (same_net c A q.out.0 r.out.0 on_q on_r) in
      bank_is_one r x y of_x (subst (IsOfBank n y) same of_y)

  -- a net comes from the acknowledge cells of a bank that there is
  pub bank_of_ack_net : (net bank : ℕ) → ComesFrom n net (AckOf bank) → IsRequest n bank
  bank_of_ack_net net bank from = let (c, (in_c, is_ack, (r, of_bank, on))) = ack_of_bank n net (AckOf bank) bank refl from in (r, of_bank)

  module _ (free : IsFree n) where
    -- the output of a gate cell has one origin, by the fourth rule
    gate_origin_is_one : (c : Cell) → IsCell n c → IsGate c → (x y : Origin) → ComesFrom n c.out.0 x → ComesFrom n c.out.0 y → x ≡ y
    gate_origin_is_one c in_c (kind, is_gate) x y from_x from_y =
        let (k, at) = place_of n c in_c in
        elim ((free.unmixed k c at).gate kind is_gate) [
          | inl (request, only) ↦ only.only x from_x ∙ sym (only.only y from_y)
          | inr (request, only, tree) ↦ only.only x from_x ∙ sym (only.only y from_y)
        ]

    -- each net has one origin
    pub one_origin : (net : ℕ) (x y : Origin) → ComesFrom n net x → ComesFrom n net y → x ≡ y
    one_origin net x y (port at) from = sym (port_origin n is net y at from)
    one_origin net x y (rail {request = request} c of_bank) from =
        let (other, of_other, is_rail) = register_origin n is c of_bank.0 of_bank.1 c.out.0 y refl from in
        sym (is_rail ∙ ap RailOf (bank_is_one c other request of_other of_bank))
    one_origin net x y (ack {request = request} c acks) from =
        let (other, other_acks, is_ack) = ack_origin n is c acks.0 acks.1 c.out.0 y refl from in
        sym (is_ack ∙ ap AckOf (acked_is_one c other request other_acks acks))
    one_origin net x y (gate {origin = origin} c in_c is_gate reads from_input) from = gate_origin_is_one c in_c is_gate origin y (gate c in_c is_gate reads from_input) from

    -- a completion cell is a TH22, TH33 or TH44 that reads nets of its bank's tree alone
    pub completion_cell : (c : Cell) (kind : Kind) (bank : ℕ) → IsCell n c → c.kind ≡ Gate kind → ComesFrom n c.out.0 (AckOf bank)
        → IsTreeKind kind × (length c.ins.items ≡ arity_of kind) × ((x : NetId) → Member x c.ins.items → ComesFrom n x.0 (AckOf bank))
    completion_cell c kind bank in_c is_gate from =
        let (k, at) = place_of n c in_c in
        elim ((free.unmixed k c at).gate kind is_gate) [
          | inl (other, only) ↦ let is_rail = only.only (AckOf bank) from in absurd cc
          | inr (other, only, is_tree) ↦
              let fits = cell_fits n is c in_c in
              let pins : length c.ins.items + 1 ≡ length (pins_of c.kind) = fits.pins in
              let of_kind : length (pins_of c.kind) ≡ length (pins_of (Gate kind)) = ap (λ k. length (pins_of k)) is_gate in
              let arity = pins_of_tree kind is_tree in (
                is_tree,
                omega (arith, pins, of_kind, arity),
                λ x m.
                    let lt = All-contains (λ (x : NetId). x.0 < length n.nets) c.ins.items x fits.inputs (Contains-from_Member x m) in
                    let (origin, comes) = has_origin n is free x.0 lt in
                    let is_other = only.only origin (gate c in_c (kind, is_gate) (Contains-from_Member x m) comes) in
                    subst (ComesFrom n x.0) (is_other ∙ sym (only.only (AckOf bank) from)) comes,
              )
        ]
