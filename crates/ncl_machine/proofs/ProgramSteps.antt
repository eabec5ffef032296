-- What the program does at a step is what the table says.
use Rattle.ncl_machine.proofs.Terms.{Bool, Cell, CellId, Contains, Contains-from_slice_get, Fire, Held, IfSome, IsFor, Lower, None, Option, PipelineData, Raise, Some, after_lower, after_raise, and_parts, ap, both_ways, current_rails, current_word, enabled, false, fired, has_value, if◌then◌else◌, is_excited, length, list_all, lowered_from, meaning, net_of_step, net_values, next_value, not, out_at, put_at, rail_nets, rails_of_word, raised_from, refl, set, slice_get, step, subst, sym, true, with_net, ℕ, ◌&&◌, ◌+◌, ◌<◌, ◌∙◌, ◌≡◌}
use Rattle.ncl_machine.proofs.ProgramEnds.{AreProgramEnds}
use Rattle.ncl_machine.proofs.TruthValues.{not-from_differ}
use Rattle.ncl_machine.proofs.ValueLists.{net_values-set}

abbrev pub flipped : Held → ℕ → Held
flipped h net = record h { values = set h.values net (not (net_values h.values net)) }

meaning-if : (b : Bool) (x y : Held) → meaning (if b then x else y) ≡ (if b then meaning x else meaning y)
meaning-if true x y = refl
meaning-if false x y = refl

module _ (p : PipelineData) (h : Held) (made : IsFor p h) (net : ℕ) (within : net < length h.values) where
  same_rails : current_word h ≡ current_rails p (meaning h)
  same_rails = ap (λ inputs. rails_of_word inputs (slice_get h.offered h.done)) made.inputs

  -- ---- cells

  cell_is : (cell : CellId) → enabled p (meaning h) (Fire cell) ≡ true → IfSome (net_of_step p (meaning h) (Fire cell)) (λ n. net ≡ n)
      → (c : Cell) × (slice_get p.netlist.cells cell.0 ≡ Some c) × (net ≡ c.out.0) × (next_value (net_values h.values) c ≡ not (net_values h.values c.out.0))
  cell_is cell on is = by_cell (slice_get p.netlist.cells cell.0) refl on is
    where
      by_cell : (o : Option Cell) → slice_get p.netlist.cells cell.0 ≡ o → is_excited (net_values h.values) o ≡ true → IfSome (out_at o) (λ n. net ≡ n)
          → (c : Cell) × (slice_get p.netlist.cells cell.0 ≡ Some c) × (net ≡ c.out.0) × (next_value (net_values h.values) c ≡ not (net_values h.values c.out.0))
      by_cell None at excited e = absurd (both_ways false refl excited)
      by_cell (Some c) at excited e = (c, at, e, not-from_differ _ _ excited)

  pub cell_apart : AreProgramEnds p → (cell : CellId) → enabled p (meaning h) (Fire cell) ≡ true
      → IfSome (net_of_step p (meaning h) (Fire cell)) (λ n. net ≡ n) → Contains (rail_nets h.inputs) net → ⊥
  cell_apart ends cell on is some =
      let (c, at, e, next) = cell_is cell on is in
      ends.driven cell.0 c at (subst (λ n. Contains (rail_nets p.inputs) n) e (subst (λ bits. Contains (rail_nets bits) net) made.inputs some))

  pub cell_done : (cell : CellId) → enabled p (meaning h) (Fire cell) ≡ true → IfSome (net_of_step p (meaning h) (Fire cell)) (λ n. net ≡ n)
      → meaning (flipped h net) ≡ step p (meaning h) (Fire cell)
  cell_done cell on is =
      let (c, at, e, next) = cell_is cell on is in
      let v = net_values h.values in
      ap (λ u. record (meaning h) { value = u })
      (net_values-set h.values net (not (v net)) within ∙ ap (λ n. with_net v n (not (v n))) e ∙ ap (with_net v c.out.0) (sym next) ∙ sym (ap (fired v) at))

  -- ---- the source

  bit_is : (bit : ℕ) (value : Bool) → has_value (net_values h.values) (slice_get (current_rails p (meaning h)) bit) value ≡ true
      → IfSome (slice_get (current_rails p (meaning h)) bit) (λ n. net ≡ n) → slice_get (current_rails p (meaning h)) bit ≡ Some net
  bit_is bit value has is = by_rail (slice_get (current_rails p (meaning h)) bit) has is
    where
      by_rail : (o : Option ℕ) → has_value (net_values h.values) o value ≡ true → IfSome o (λ n. net ≡ n) → o ≡ Some net
      by_rail None has is = absurd (both_ways false refl has)
      by_rail (Some n) has is = sym (ap Some is)

  named : (bit : ℕ) → slice_get (current_rails p (meaning h)) bit ≡ Some net → Contains (current_word h) net
  named bit at = subst (λ rails. Contains rails net) (sym same_rails) (Contains-from_slice_get (current_rails p (meaning h)) bit net at)

  raised_rail : (bit : ℕ) → enabled p (meaning h) (Raise bit) ≡ true → IfSome (net_of_step p (meaning h) (Raise bit)) (λ n. net ≡ n)
      → slice_get (current_rails p (meaning h)) bit ≡ Some net
  raised_rail bit on is = bit_is bit false (and_parts (not h.falling && net_values h.values p.ko) _ on).1 is

  lowered_rail : (bit : ℕ) → enabled p (meaning h) (Lower bit) ≡ true → IfSome (net_of_step p (meaning h) (Lower bit)) (λ n. net ≡ n)
      → slice_get (current_rails p (meaning h)) bit ≡ Some net
  lowered_rail bit on is = bit_is bit true (and_parts (h.falling && not (net_values h.values p.ko)) _ on).1 is

  pub raise_named : (bit : ℕ) → enabled p (meaning h) (Raise bit) ≡ true → IfSome (net_of_step p (meaning h) (Raise bit)) (λ n. net ≡ n)
      → Contains (current_word h) net
  raise_named bit on is = named bit (raised_rail bit on is)

  pub lower_named : (bit : ℕ) → enabled p (meaning h) (Lower bit) ≡ true → IfSome (net_of_step p (meaning h) (Lower bit)) (λ n. net ≡ n)
      → Contains (current_word h) net
  lower_named bit on is = named bit (lowered_rail bit on is)

  pub raise_done : (bit : ℕ) → enabled p (meaning h) (Raise bit) ≡ true → IfSome (net_of_step p (meaning h) (Raise bit)) (λ n. net ≡ n)
      → meaning (raised_from h net) ≡ step p (meaning h) (Raise bit)
  raise_done bit on is =
      let v = net_values h.values in
      ap (λ u. record (meaning h) { value = u; falling = list_all u (current_word h) }) (net_values-set h.values net true within)
      ∙ ap (λ rails. record (meaning h) { value = with_net v net true; falling = list_all (with_net v net true) rails }) same_rails
      ∙ sym (ap (λ o. after_raise p (meaning h) (put_at v o true)) (raised_rail bit on is))

  pub lower_done : (bit : ℕ) → enabled p (meaning h) (Lower bit) ≡ true → IfSome (net_of_step p (meaning h) (Lower bit)) (λ n. net ≡ n)
      → meaning (lowered_from h net) ≡ step p (meaning h) (Lower bit)
  lower_done bit on is =
      let v = net_values h.values in
      meaning-if (list_all (λ rail. not (net_values (set h.values net false) rail)) (current_word h)) _ _
      ∙ ap (λ u. if list_all (λ rail. not (u rail)) (current_word h) then record (meaning h) { value = u; falling = false; done = h.done + 1 } else record (meaning h) { value = u })
      (net_values-set h.values net false within)
      ∙ ap (λ rails. if list_all (λ rail. not (with_net v net false rail)) rails then record (meaning h) { value = with_net v net false; falling = false; done = h.done + 1 } else record (meaning h) { value = with_net v net false }) same_rails
      ∙ sym (ap (λ o. after_lower p (meaning h) (put_at v o false)) (lowered_rail bit on is))
