-- When a list of ports, nets and cells that is written out is a netlist: tests that compute say so.
pub use Rattle.ncl_insensitivity.proofs.Terms.{All-contains, AllPass-from_list_all, Bool, Cell, CellFits, Contains, IsDistinct-from_count, IsNetlist, IsStage-from_test, NetId, NetlistData, and_parts, arith, chain, chain_pipeline, chain_stage, distinct_count, drivers_of, eqb-true, flat_map, get_or, get_or-range_with_len, length, length-range_with_len, list_all, ltb-true, map, most_cells, nat_eq, nat_lt, once_each, pin_names, pins_of, range_with_len, refl, same_name, same_name-equiv, take, true, where_the_chain_rests, ℕ, ◌&&◌, ◌++◌, ◌+◌, ◌<◌, ◌^◌, ◌≡◌, ◌≤◌}
pub use Rattle.ncl_insensitivity.proofs.ByComputation.{IsHiddenAtOne, IsHiddenAtOne-word, condition_of-other, other_faults, quiet_by_cells}

abbrev fits_test : ℕ → Cell → Bool
fits_test nets c = nat_lt c.out.0 nets && (list_all (λ (net : NetId). nat_lt net.0 nets) c.ins.items && nat_eq (length c.ins.items + 1) (length (pins_of c.kind)))

fits-from_test : (nets : ℕ) (c : Cell) → fits_test nets c ≡ true → CellFits nets c
fits-from_test nets c passes =
    let (output, others) = and_parts (nat_lt c.out.0 nets) _ passes in
    let (inputs, pins) = and_parts (list_all (λ (net : NetId). nat_lt net.0 nets) c.ins.items) _ others in
    record {
      output = ltb-true c.out.0 nets output;
      inputs = λ k d lt. ltb-true _ nets (AllPass-from_list_all (λ (net : NetId). nat_lt net.0 nets) c.ins.items inputs k d lt);
      pins = eqb-true _ _ pins;
    }

-- the facts of a netlist that tests show
pub record PassesTests (n : NetlistData) : Type 0 where
  pub driven : list_all (λ net. nat_eq (drivers_of n net) 1) (range_with_len 0 (length n.nets)) ≡ true
  pub fits : list_all (fits_test (length n.nets)) n.cells ≡ true
  pub ports_first : take (length n.ports) n.nets ≡ map (λ port. port.name) n.ports
  pub in_order : n.nets ≡ once_each (map (λ port. port.name) n.ports ++ flat_map (pin_names n.nets) n.cells)
  pub net_names : distinct_count same_name n.nets ≡ length n.nets
  pub cell_names : distinct_count same_name (map (λ cell. cell.name) n.cells) ≡ length (map (λ cell. cell.name) n.cells)
  pub few_cells : length n.cells ≤ most_cells
  pub few_nets : length n.nets < 2 ^ 32
  pub few_ports : length n.ports < 2 ^ 31

pub netlist_from_tests : (n : NetlistData) → PassesTests n → IsNetlist n
netlist_from_tests n tests = record {
  driven = λ net lt. eqb-true (drivers_of n net) 1 (All-contains (λ x. nat_eq (drivers_of n x) 1 ≡ true) (range_with_len 0 (length n.nets)) net (AllPass-from_list_all (λ x. nat_eq (drivers_of n x) 1) (range_with_len 0 (length n.nets)) tests.driven) (place net lt));
  fits = λ k d lt. fits-from_test (length n.nets) (get_or n.cells k d) (AllPass-from_list_all (fits_test (length n.nets)) n.cells tests.fits k d lt);
  ports_first = tests.ports_first;
  in_order = tests.in_order;
  net_names = IsDistinct-from_count same_name-equiv n.nets tests.net_names;
  cell_names = IsDistinct-from_count same_name-equiv (map (λ cell. cell.name) n.cells) tests.cell_names;
  few_cells = tests.few_cells;
  few_nets = tests.few_nets;
  few_ports = tests.few_ports;
}
  where
    place : (net : ℕ) → net < length n.nets → Contains (range_with_len 0 (length n.nets)) net
    place net lt =
        let count = length-range_with_len 0 (length n.nets) in
        let at = get_or-range_with_len 0 (length n.nets) net net lt in
        (net, omega (arith, lt, count), omega (arith, at))
