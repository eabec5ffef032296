-- Each input port of an assembled netlist is read by a pin.
use Rattle.ncl_assembly.proofs.Terms.{A, B, Bool, Cell, IsAssembled, IsCell, IsReadPort, Member, NetlistData, OnPin, PipelineData, RST, ReadsNet, ReadsNet-from_pin, Some, WiredBank, WiredBit, ap, false, inl, inr, rail_nets, rails_read, slice_get, subst, sym, zero, ℕ, ◌≡◌}
use Rattle.ncl_assembly.proofs.WiredPlaces.{BankAt, first_bank, first_reads, last_request}
use Rattle.ncl_assembly.proofs.WiredPorts.{input_cases}
use Rattle.ncl_assembly.proofs.WiredOrigins.{rail_of_bits}
use Rattle.ncl_assembly.proofs.WiredPins.{first_bit, last_bank, cell_of_rail, rail_cell_of_bank}

module _ (n : NetlistData) (p : PipelineData) (is : IsAssembled n p) where
  abbrev IsRead : ℕ → Type 0
  IsRead net = (c : Cell) × IsCell n c × ReadsNet c net

  -- the pins of the register cell of a rail read
  by_pin : (k j : ℕ) (b : WiredBank) (w : WiredBit) → (at : BankAt n p is k b) → (at_w : slice_get b.bits j ≡ Some w) → (r : Bool) (pin net : ℕ) → OnPin (cell_of_rail n p is k j b w at at_w r).cell pin net → IsRead net
  by_pin k j b w at at_w r pin net on =
      let c = (cell_of_rail n p is k j b w at at_w r).cell in
      (c, (rail_cell_of_bank n p is k j b w at at_w r).0, ReadsNet-from_pin c pin net on)

  input_read : (net : ℕ) → Member net (rail_nets p.inputs) → IsRead net
  input_read net m =
      let (b, at) = first_bank n p is in
      let read : Member net (rail_nets (rails_read b)) = subst (λ l. Member net (rail_nets l)) (sym (first_reads n p is b at)) m in
      let (j, w, r, at_w, same) = rail_of_bits (λ (w : WiredBit). w.from) b.bits net read in
      subst IsRead same (by_pin zero j b w at at_w r A _ (ap (λ l. slice_get l A) (cell_of_rail n p is zero j b w at at_w r).ins))

  ki_read : IsRead p.ki
  ki_read =
      let (k, b, at, last) = last_bank n p is in
      let (w, at_w) = first_bit n p is k b at in
      subst IsRead (last_request n p is k b at last) (by_pin k zero b w at at_w false B b.request.0 (ap (λ l. slice_get l B) (cell_of_rail n p is k zero b w at at_w false).ins))

  rst_read : IsRead is.rst.0
  rst_read =
      let (b, at) = first_bank n p is in
      let (w, at_w) = first_bit n p is zero b at in
      by_pin zero zero b w at at_w false RST is.rst.0 (ap (λ l. slice_get l RST) (cell_of_rail n p is zero zero b w at at_w false).ins)

  pub ports_read : (net : ℕ) → IsReadPort n net
  ports_read net input =
      elim (input_cases n p is net input) [
        | inl rail ↦ input_read net rail
        | inr (inl ki) ↦ subst IsRead ki ki_read
        | inr (inr rst) ↦ subst IsRead rst rst_read
      ]
