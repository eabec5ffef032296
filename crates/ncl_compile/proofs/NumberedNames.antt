-- The numbers of the names in parts: names at pins have different ones, and ports have those of their places.
use Rattle.ncl_compile.proofs.Terms.{Bool, HasAllPins, IsNetlist, List, Member, Member-append_right, Member-flat_map, Member-get_or, NamePair, PartCell, Parts, Port, Some, [], ap, arith, at_of_map, flat_map, get_or, get_or-name_number, length, length-map, length-range_with_len, list_any-from_member, list_any-once_each, map, name_number, name_number-lt-length, name_number-net, named_pair, net_of_port, netlist_of, nets_of, output_name, pair_names, pins_of-some, port_names, ports_named, rail_nets, range_with_len, refl, same_from_lengths, same_itself, same_name, slice_get, sym, ℕ, ◌++◌, ◌-◌, ◌∙◌, ◌∷◌, ◌≡◌}
use Rattle.ncl_compile.proofs.NumberedBanks.{place_in_range}

module _ (parts : Parts) where
  -- the names at the pins of cells
  abbrev pub pins_of_parts : List (List ℕ)
  pins_of_parts = flat_map (λ (cell : PartCell). cell.pins) parts.cells

  abbrev pub net_number : List ℕ → ℕ
  net_number = name_number (nets_of parts)

  -- the net of the number of a name that occurs has that name
  pub name_of_number : (x : List ℕ) → Member x (port_names parts ++ pins_of_parts) → get_or (nets_of parts) (net_number x) [] ≡ x
  name_of_number x m =
      let all = port_names parts ++ pins_of_parts in
      let within = name_number-lt-length (nets_of parts) x (list_any-once_each all x ∙ list_any-from_member (same_name x) x m (same_itself x)) in
      get_or-name_number (nets_of parts) x [] within

  -- so the numbers of names at pins differ where the names do
  pub same_number : (x y : List ℕ) → Member x pins_of_parts → Member y pins_of_parts → net_number x ≡ net_number y → x ≡ y
  same_number x y in_x in_y same =
      sym (name_of_number x (Member-append_right (port_names parts) x in_x)) ∙ ap (λ k. get_or (nets_of parts) k []) same ∙ name_of_number y (Member-append_right (port_names parts) y in_y)

  -- the pins of a cell are among them, and so is its output
  pub pin_among : (x : List ℕ) (c : PartCell) → Member c parts.cells → Member x c.pins → Member x pins_of_parts
  pin_among x c in_cells in_pins = Member-flat_map (λ (cell : PartCell). cell.pins) c x in_cells in_pins

  pub output_among : (c : PartCell) → Member c parts.cells → HasAllPins c → Member (output_name c) pins_of_parts
  output_among c in_cells pins =
      let some = pins_of-some c.kind in
      pin_among (output_name c) c in_cells (Member-get_or c.pins (length c.pins - 1) [] (omega (arith, pins, some)))

  module _ (is : IsNetlist (netlist_of parts)) where
    -- the number of the name of a port is the place of the port
    pub port_number : (i : ℕ) (port : Port) → slice_get parts.ports i ≡ Some port → net_number port.name ≡ i
    port_number i port at = name_number-net (netlist_of parts) is i port.name (net_of_port (netlist_of parts) is i port at)

    pub ports_in_row : map net_number (port_names parts) ≡ range_with_len 0 (length parts.ports)
    ports_in_row =
        same_from_lengths (map net_number (port_names parts)) (range_with_len 0 (length parts.ports))
        (omega (arith, length-map (port_names parts) net_number, length-map parts.ports (λ (port : Port). port.name), length-range_with_len 0 (length parts.ports)))
        (λ k x y at_x at_y.
        let (name, at_name, is_x) = at_of_map net_number (port_names parts) k x at_x in
        let (port, at_port, is_name) = at_of_map (λ (port : Port). port.name) parts.ports k name at_name in
        sym is_x ∙ ap net_number (sym is_name) ∙ port_number k port at_port ∙ sym (place_in_range (length parts.ports) k y at_y))

-- the nets of pairs have the numbers of their names
pub rail_nets-numbered : (number : List ℕ → ℕ) (pairs : List NamePair) → rail_nets (map (named_pair number) pairs) ≡ map number (pair_names pairs)
rail_nets-numbered number [] = refl
rail_nets-numbered number (pair ∷ pairs) = ap (λ l. number pair.zero ∷ number pair.one ∷ l) (rail_nets-numbered number pairs)

-- the names and the directions of ports that are made of names
pub names_of_ports : (output : Bool) (names : List (List ℕ)) → map (λ (port : Port). port.name) (ports_named output names) ≡ names
names_of_ports output [] = refl
names_of_ports output (name ∷ names) = ap (λ l. name ∷ l) (names_of_ports output names)

pub directions_of_ports : (output : Bool) (names : List (List ℕ)) (number : List ℕ → ℕ) → map (λ (port : Port). port.output) (ports_named output names) ≡ map (λ net. output) (map number names)
directions_of_ports output [] number = refl
directions_of_ports output (name ∷ names) number = ap (λ l. output ∷ l) (directions_of_ports output names number)
