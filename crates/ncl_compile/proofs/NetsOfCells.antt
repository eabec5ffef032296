-- A netlist has no more nets than ports and cells.
use Rattle.ncl_compile.proofs.Terms.{Ack, All, AllPairs, Bool, Cell, IsNetlist, NetlistData, [], ap, arith, both_ways, cases_lt, driver_of_net, eq-eqb, eqb-true, fails_before_first, get_or, get_or-map-range_with_len, get_or_from_slice_get, inl, inr, length, length-map-range_with_len, map, no_more_than, passes_at_first, ports-le-nets, position_or_len, range_with_len, refl, slice_get_within, subst, sym, ℕ, ◌+◌, ◌-◌, ◌<◌, ◌∙◌, ◌≡◌, ◌≢◌, ◌≤◌}
use Rattle.std.specs.Prelude.{nat_eq}

module _ (n : NetlistData) (is : IsNetlist n) where
  abbrev drives : ℕ → Cell → Bool
  drives net cell = nat_eq cell.out.0 net

  -- the place of the first cell that drives a net
  abbrev driver : ℕ → ℕ
  driver net = position_or_len (drives net) n.cells

  no_cell : Cell
  no_cell = record { kind = Ack; name = []; ins = record { items = [] }; out = record { 0 = 0 } }

  -- a net past the ports is driven by a cell
  driver_within : (net : ℕ) → length n.ports ≤ net → net < length n.nets → driver net < length n.cells
  driver_within net past within =
      elim (driver_of_net n is net within) [
        | inl (port, at, input) ↦ let inside = slice_get_within n.ports net port at in absurd (omega (arith, inside, past))
        | inr (k, cell, at, out) ↦
            elim (cases_lt k (driver net)) [
              | inl before ↦
                  let none = fails_before_first (drives net) n.cells k no_cell before in
                  let here = get_or_from_slice_get n.cells k cell no_cell at in
                  absurd (both_ways (drives net (get_or n.cells k no_cell)) none (eq-eqb (get_or n.cells k no_cell).out.0 net (ap (λ (z : Cell). z.out.0) here ∙ out)))
              | inr over ↦ let inside = slice_get_within n.cells k cell at in omega (arith, over, inside)
            ]
      ]

  driver_drives : (net : ℕ) → driver net < length n.cells → (get_or n.cells (driver net) no_cell).out.0 ≡ net
  driver_drives net within = eqb-true (get_or n.cells (driver net) no_cell).out.0 net (passes_at_first (drives net) n.cells no_cell within)

  -- so there are as many cells
  pub nets-le : length n.nets ≤ length n.ports + length n.cells
  nets-le =
      let ports = ports-le-nets n is in
      let long = length-map-range_with_len driver (length n.ports) (length n.nets - length n.ports) in
      let few = no_more_than (map driver (range_with_len (length n.ports) (length n.nets - length n.ports))) (length n.cells) differ below in
      omega (arith, ports, long, few)
    where
      count : ℕ
      count = length n.nets - length n.ports

      at_place : (i d : ℕ) → i < length n.nets - length n.ports → get_or (map driver (range_with_len (length n.ports) (length n.nets - length n.ports))) i d ≡ driver (length n.ports + i)
      at_place i d lt = get_or-map-range_with_len driver (length n.ports) (length n.nets - length n.ports) i (length n.ports + i) d lt refl

      differ : AllPairs (λ i j. i ≢ j) (map driver (range_with_len (length n.ports) (length n.nets - length n.ports)))
      differ i j d less within same =
          let long = length-map-range_with_len driver (length n.ports) (length n.nets - length n.ports) in
          let lt : j < length n.nets - length n.ports = omega (arith, within, long) in
          let lt_i : i < length n.nets - length n.ports = omega (arith, lt, less) in
          let drivers : driver (length n.ports + i) ≡ driver (length n.ports + j) = sym (at_place i d lt_i) ∙ same ∙ at_place j d lt in
          let own = driver_drives (length n.ports + i) (driver_within (length n.ports + i) (omega arith) (omega (arith, lt_i))) in
          let other = driver_drives (length n.ports + j) (driver_within (length n.ports + j) (omega arith) (omega (arith, lt))) in
          let nets : length n.ports + i ≡ length n.ports + j = sym own ∙ ap (λ k. (get_or n.cells k no_cell).out.0) drivers ∙ other in
          omega (arith, nets, less)

      below : All (λ i. i < length n.cells) (map driver (range_with_len (length n.ports) (length n.nets - length n.ports)))
      below k d within =
          let long = length-map-range_with_len driver (length n.ports) (length n.nets - length n.ports) in
          let lt : k < length n.nets - length n.ports = omega (arith, within, long) in
          subst (λ z. z < length n.cells) (sym (at_place k d lt)) (driver_within (length n.ports + k) (omega arith) (omega (arith, lt)))
