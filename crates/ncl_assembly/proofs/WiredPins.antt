-- The pins of the cells of an assembled netlist, and the banks of its register cells.
use Rattle.ncl_assembly.proofs.Terms.{A, B, Bool, Cell, CellAt, HasCell, HasOnlyOrigin, IsAssembled, IsInputPort, IsOfBank, Member, NetId, NetlistData, OnPin, PipelineData, RST, RailOf, Register, Some, WiredBank, WiredBit, [], ap, arith, false, length, place_of, rail_nets, rails_driven, rails_read, same_net, slice_get, slice_get-some, subst, suc, sym, zero, ℕ, ◌-◌, ◌∷◌, ◌≡◌}
use Rattle.ncl_assembly.proofs.WiredPlaces.{BankAt, wired_bank, wired_bit, as_many, stage_before}
use Rattle.ncl_assembly.proofs.WiredCells.{register_of, net_of_rail, register_cell, RegisterAt, register_role}
use Rattle.ncl_assembly.proofs.WiredPorts.{rail_port}
use Rattle.ncl_assembly.proofs.WiredOrigins.{rail_among, rail_of_bank, next_read_only, requests_differ, first_read}

module _ (n : NetlistData) (p : PipelineData) (is : IsAssembled n p) where
  -- each bank has a bit
  pub first_bit : (k : ℕ) (b : WiredBank) → BankAt n p is k b → (w : WiredBit) × (slice_get b.bits zero ≡ Some w)
  first_bit k b at = let some = (wired_bank n p is k b at).some in slice_get-some b.bits zero (omega (arith, some))

  pub last_bank : (k : ℕ) × (b : WiredBank) × BankAt n p is k b × (suc k ≡ length is.wired)
  last_bank =
      let many = as_many n p is in
      let (b, at) = slice_get-some is.wired (length is.wired - 1) (omega (arith, many)) in
      (length is.wired - 1, b, at, omega (arith, many))

  -- the register cell of a rail of a bit of a bank
  abbrev pub cell_of_rail : (k j : ℕ) (b : WiredBank) (w : WiredBit) → BankAt n p is k b → slice_get b.bits j ≡ Some w → (r : Bool) → HasCell n (register_of w.bit r) Register (net_of_rail w.from r ∷ b.request ∷ is.rst ∷ []) (net_of_rail w.to r)
  cell_of_rail k j b w at at_w r = register_cell n b.request is.rst w (wired_bit n p is k j b w at at_w) r

  -- it is of that bank
  pub rail_cell_of_bank : (k j : ℕ) (b : WiredBank) (w : WiredBit) → (at : BankAt n p is k b) → (at_w : slice_get b.bits j ≡ Some w) → (r : Bool) → IsOfBank n b.request.0 (cell_of_rail k j b w at at_w r).cell
  rail_cell_of_bank k j b w at at_w r = rail_of_bank n is.is_netlist b.request is.rst w (wired_bit n p is k j b w at at_w) r

  -- so a bank has a register cell
  pub some_register : (k : ℕ) (b : WiredBank) → BankAt n p is k b → (c : Cell) × IsOfBank n b.request.0 c
  some_register k b at =
      let (w, at_w) = first_bit k b at in
      ((cell_of_rail k zero b w at at_w false).cell, rail_cell_of_bank k zero b w at at_w false)

  -- the pins of a register cell by its role
  module _ (i : ℕ) (c : Cell) (r : RegisterAt n p is i c) where
    pub on_a : OnPin c A (net_of_rail r.own.bit.from r.own.rail).0
    on_a = ap (λ l. slice_get l A) r.own.on.ins

    pub on_b : OnPin c B r.bank.request.0
    on_b = ap (λ l. slice_get l B) r.own.on.ins

    pub on_rst : OnPin c RST is.rst.0
    on_rst = ap (λ l. slice_get l RST) r.own.on.ins

    -- what it reads on A is a rail that its bank reads
    pub read_by_bank : (net : ℕ) → OnPin c A net → Member net (rail_nets (rails_read r.bank))
    read_by_bank net on =
        let same : (net_of_rail r.own.bit.from r.own.rail).0 ≡ net = same_net c A (net_of_rail r.own.bit.from r.own.rail).0 net on_a on in
        subst (λ x. Member x (rail_nets (rails_read r.bank))) same (rail_among (λ (w : WiredBit). w.from) r.bank.bits r.own.j r.own.bit r.own.rail r.own.at)

    -- what it drives is a rail that its bank drives
    pub driven_by_bank : Member c.out.0 (rail_nets (rails_driven r.bank))
    driven_by_bank =
        subst (λ (x : NetId). Member x.0 (rail_nets (rails_driven r.bank))) (sym r.own.on.out) (rail_among (λ (w : WiredBit). w.to) r.bank.bits r.own.j r.own.bit r.own.rail r.own.at)

  -- a register cell of a bank by its role
  pub role_in_bank : (request : ℕ) (c : Cell) → IsOfBank n request c → (i : ℕ) × CellAt n i c × ((r : RegisterAt n p is i c) × (r.bank.request.0 ≡ request))
  role_in_bank request c (in_c, register, on) =
      let (i, at) = place_of n c in_c in
      let r = register_role n p is i c at register in
      (i, at, (r, same_net c B r.bank.request.0 request (on_b i c r) on))

  -- a bank that there is has a place
  pub bank_of_request : (request : ℕ) (c : Cell) → IsOfBank n request c → (k : ℕ) × (b : WiredBank) × BankAt n p is k b × (b.request.0 ≡ request)
  bank_of_request request c of_bank = let (i, at, (r, same)) = role_in_bank request c of_bank in (r.k, r.bank, r.at_bank, same)

  -- what register cells of the bank at a place read on A
  pub read_at : (k : ℕ) (b : WiredBank) → BankAt n p is k b → (c : Cell) → IsOfBank n b.request.0 c → (net : ℕ) → OnPin c A net → Member net (rail_nets (rails_read b))
  read_at k b at c of_bank net on =
      let (i, at_c, (r, same)) = role_in_bank b.request.0 c of_bank in
      let places : r.k ≡ k = requests_differ n p is r.k k r.bank b r.at_bank at same in
      let moved : BankAt n p is k r.bank = subst (λ z. BankAt n p is z r.bank) places r.at_bank in
      let one : r.bank ≡ b = cc in
      subst (λ (z : WiredBank). Member net (rail_nets (rails_read z))) one (read_by_bank i c r net on)

  -- those of the first bank input ports, and those of another bank rails of the bank before it
  pub read_first : (b : WiredBank) → BankAt n p is zero b → (net : ℕ) → Member net (rail_nets (rails_read b)) → IsInputPort n net
  read_first b at net m = rail_port n p is net (first_read n p is b at net m)

  pub read_next : (k : ℕ) (next : WiredBank) → BankAt n p is (suc k) next → (net : ℕ) → Member net (rail_nets (rails_read next)) → (b : WiredBank) × BankAt n p is k b × HasOnlyOrigin n net (RailOf b.request.0)
  read_next k next at_next net m =
      let (s, b, at_s, at) = stage_before n p is k next at_next in
      (b, at, next_read_only n p is k b next at at_next net m)
