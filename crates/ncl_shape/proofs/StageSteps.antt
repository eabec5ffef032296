-- The gate cells of a bank, found one by one in an order of the netlist's cells.
use Rattle.ncl_shape.proofs.Terms.{All-contains, All-from_members, AllPairs, AllZip, AreBitsOf, AreGatesOf, AreRailsOf, Bit, Cell, CellAt, ComesFrom, Contains, Contains-append_left, Contains-from_Member, Contains-from_slice_get, Contains-last, Drives, Gate, IsCell, IsCellOrder, IsFree, IsGate, IsGateOf, IsInOrder, IsNetlist, IsOfBank, Kind, List, Member-append_left, Member-append_right, Member-from_Contains, Member-map, NetId, NetlistData, RailOf, Rails, Reads, ReadsNet, Some, StageCell, [], ack_origin, all_pairs_push, ap, arith, at_push, cell_fits, cut_at, driver_of, drop, from_push, gate, get_or, has_origin, inl, inr, length, map, nets_of, new_at, one_origin, out_of, place_of, port_origin, rail_nets, register_origin, replicate, set, slice_get, slice_get-from_Contains, slice_get-get_or, slice_get_within, sort_of, split_push, subst, sym, take, take_more, ℕ, ◌++◌, ◌+◌, ◌<◌, ◌∙◌, ◌∷◌, ◌≡◌, ◌≢◌, ◌⊎◌}
use Rattle.ncl_shape.proofs.ShapeLaws.{same_cell}
use Rattle.ncl_shape.proofs.RailLaws.{rail_of_register}
use Rattle.ncl_shape.proofs.ZippedLists.{AllZip-same, AllZip-begin, AllZip-set}

-- the gate cells that read the bank's rails, among those at some places
pub record AreGatesAmong (n : NetlistData) (places : List ℕ) (bank : ℕ) (cells : List StageCell) : Type 0 where
  pub each : (k : ℕ) (c : StageCell) → slice_get cells k ≡ Some c → IsGateOf n bank c
  pub among : (k : ℕ) (c : StageCell) → slice_get cells k ≡ Some c → Contains places c.cell.0
  pub every : (k : ℕ) (kind : Kind) (c : Cell) → Contains places k → CellAt n k c → c.kind ≡ Gate kind → ComesFrom n c.out.0 (RailOf bank) → (g : StageCell) × Contains cells g × (g.cell.0 ≡ k)
  pub differ : AllPairs (λ (x y : StageCell). x.cell.0 ≢ y.cell.0) cells
  pub in_order : (bits : List Bit) (inputs : List Rails) → AreBitsOf n bank bits → AllZip (AreRailsOf n) bits inputs → IsInOrder inputs cells

module _ (n : NetlistData) (is : IsNetlist n) (free : IsFree n) (bank : ℕ) where
  -- a net that comes from the bank's rails is one of these, or a gate cell drives it
  net_of_stage : (net : ℕ) → net < length n.nets → ComesFrom n net (RailOf bank) → ((c : Cell) × IsOfBank n bank c × (c.out.0 ≡ net)) ⊎ ((k : ℕ) × (c : Cell) × (kind : Kind) × CellAt n k c × (c.kind ≡ Gate kind) × (c.out.0 ≡ net))
  net_of_stage net lt from =
      elim (driver_of n is net lt) [
        | inl input ↦ let clash = port_origin n is net (RailOf bank) input from in absurd cc
        | inr (c, in_c, out) ↦
            let (k, at) = place_of n c in_c in
            elim (sort_of c) [
              | inl (kind, is_gate) ↦ inr (k, c, kind, at, is_gate, out)
              | inr (inl register) ↦
                  let (request, of_bank, named) = register_origin n is c in_c register net (RailOf bank) out from in
                  let same : request ≡ bank = cc in
                  inl (c, subst (λ r. IsOfBank n r c) same of_bank, out)
              | inr (inr is_ack) ↦
                  let (request, acks, named) = ack_origin n is c in_c is_ack net (RailOf bank) out from in
                  absurd cc
            ]
      ]

  -- what a gate cell of the stage reads comes from the bank's rails
  input_of_stage : (c : Cell) → IsCell n c → IsGate c → ComesFrom n c.out.0 (RailOf bank) → (net : ℕ) → ReadsNet c net → (net < length n.nets) × ComesFrom n net (RailOf bank)
  input_of_stage c in_c is_gate from net reads =
      let fits = cell_fits n is c in_c in
      let lt : net < length n.nets = All-contains (λ (x : NetId). x.0 < length n.nets) c.ins.items (record { 0 = net }) fits.inputs reads in
      let (o, comes) = has_origin n is free net lt in
      let same : o ≡ RailOf bank = one_origin n is free c.out.0 o (RailOf bank) (gate c in_c is_gate reads comes) from in
      (lt, subst (ComesFrom n net) same comes)

  -- a net that comes from the bank's rails is known where the rails are, and the gate cell that drives it
  pub knows : (bits : List Bit) (inputs : List Rails) → AreBitsOf n bank bits → AllZip (AreRailsOf n) bits inputs
      → (cells : List StageCell) → ((k : ℕ) (c : StageCell) → slice_get cells k ≡ Some c → IsGateOf n bank c)
      → (net : ℕ) → net < length n.nets → ComesFrom n net (RailOf bank)
      → ((k : ℕ) (kind : Kind) (c : Cell) → CellAt n k c → c.out.0 ≡ net → c.kind ≡ Gate kind → ComesFrom n c.out.0 (RailOf bank) → (g : StageCell) × Contains cells g × (g.cell.0 ≡ k))
      → Contains (nets_of inputs cells) net
  knows bits inputs are of_bits cells each net lt from driver =
      elim (net_of_stage net lt from) [
        | inl (c, of_bank, out) ↦
            subst (Contains (nets_of inputs cells)) out
            (Contains-from_Member c.out.0 (Member-append_left c.out.0 (map out_of cells) (Member-from_Contains (rail_nets inputs) c.out.0 (rail_of_register n is free bank bits are inputs of_bits c of_bank))))
        | inr (k, c, kind, at, is_gate, out) ↦
            let (g, in_cells, place) = driver k kind c at out is_gate (subst (λ x. ComesFrom n x (RailOf bank)) (sym out) from) in
            let (j, at_g) = slice_get-from_Contains cells g in_cells in
            let of_g = each j g at_g in
            let cell : of_g.cell ≡ c = same_cell n g.cell.0 k of_g.cell c place of_g.at at in
            let nets : g.out.0 ≡ net = sym (ap (λ (x : NetId). x.0) of_g.out) ∙ ap (λ (x : Cell). x.out.0) cell ∙ out in
            subst (Contains (nets_of inputs cells)) nets
            (Contains-from_Member g.out.0 (Member-append_right (rail_nets inputs) g.out.0 (Member-map out_of g (Member-from_Contains cells g in_cells))))
      ]

  -- at the start there are none
  pub gates_begin : AreGatesAmong n [] bank []
  gates_begin = record {
    each = λ k c at. absurd cc;
    among = λ k c at. absurd cc;
    every = λ k kind c (j, lt, at). absurd (omega (arith, lt));
    differ = λ i j d less lt. absurd (omega arith);
    in_order = λ bits inputs are of_bits before after cell e. absurd (split_none before cell after e);
  }
    where
      split_none : (before : List StageCell) (cell : StageCell) (after : List StageCell) → [] ≡ before ++ cell ∷ after → ⊥
      split_none [] cell after e = absurd cc
      split_none (c ∷ before) cell after e = absurd cc

  -- a gate cell of the bank whose drivers are among the places is added
  pub gates_more : (places : List ℕ) (cells : List StageCell) (g : StageCell) → AreGatesAmong n places bank cells → IsGateOf n bank g → (Contains places g.cell.0 → ⊥) → ((net k : ℕ) → Contains g.ins.items (record { 0 = net }) → Drives n k net → Contains places k) → AreGatesAmong n (places ++ g.cell.0 ∷ []) bank (cells ++ g ∷ [])
  gates_more places cells g so_far of_g new placed = record {
    each = λ k c at. elim (at_push cells g k c at) [ inl old ↦ so_far.each k c old | inr same ↦ subst (IsGateOf n bank) same of_g ];
    among = λ k c at. elim (at_push cells g k c at) [
      | inl old ↦ Contains-append_left places (g.cell.0 ∷ []) c.cell.0 (so_far.among k c old)
      | inr same ↦ subst (λ (x : StageCell). Contains (places ++ g.cell.0 ∷ []) x.cell.0) same (Contains-last places g.cell.0)
    ];
    every = λ k kind c among at is_gate from. elim (from_push places g.cell.0 k among) [
      | inl old ↦ let (found, in_cells, place) = so_far.every k kind c old at is_gate from in (found, Contains-append_left cells (g ∷ []) found in_cells, place)
      | inr same ↦ (g, Contains-last cells g, same)
    ];
    differ = all_pairs_push (λ (x y : StageCell). x.cell.0 ≢ y.cell.0) cells g so_far.differ (λ k d lt same. new (subst (Contains places) same (so_far.among k (get_or cells k d) (slice_get-get_or cells k d lt))));
    in_order = λ bits inputs are of_bits before after cell e. elim (split_push cells g before cell after e) [
      | inl (front, last) ↦ subst (λ b. Reads (nets_of inputs b) cell) (sym front) (subst (Reads (nets_of inputs cells)) (sym last) (reads_all bits inputs are of_bits))
      | inr (left, inside) ↦ so_far.in_order bits inputs are of_bits before left cell inside
    ];
  }
    where
      in_g : IsCell n of_g.cell
      in_g = Contains-from_slice_get n.cells g.cell.0 of_g.cell of_g.at

      reads_all : (bits : List Bit) (inputs : List Rails) → AreBitsOf n bank bits → AllZip (AreRailsOf n) bits inputs → Reads (nets_of inputs cells) g
      reads_all bits inputs are of_bits = All-from_members (λ (net : NetId). Contains (nets_of inputs cells) net.0) g.ins.items (λ net m.
          let among = Contains-from_Member net m in
          let (lt, from) = input_of_stage of_g.cell in_g (g.kind, of_g.kind) of_g.reads net.0 (subst (λ l. Contains l net) (sym of_g.ins) among) in
          knows bits inputs are of_bits cells so_far.each net.0 lt from (λ k kind c at out is_gate comes. so_far.every k kind c (placed net.0 k among (c, at, out)) at is_gate comes))

  -- a cell that is no gate cell of the bank is passed by
  pub gates_pass : (places : List ℕ) (cells : List StageCell) (place : ℕ) → AreGatesAmong n places bank cells → ((kind : Kind) (c : Cell) → CellAt n place c → c.kind ≡ Gate kind → ComesFrom n c.out.0 (RailOf bank) → ⊥) → AreGatesAmong n (places ++ place ∷ []) bank cells
  gates_pass places cells place so_far none = record {
    each = so_far.each;
    among = λ k c at. Contains-append_left places (place ∷ []) c.cell.0 (so_far.among k c at);
    every = λ k kind c among at is_gate from. elim (from_push places place k among) [
      | inl old ↦ so_far.every k kind c old at is_gate from
      | inr same ↦ absurd (none kind c (subst (λ p. CellAt n p c) (sym same) at) is_gate from)
    ];
    differ = so_far.differ;
    in_order = so_far.in_order;
  }

  -- after all cells these are the gate cells of the bank
  pub gates_whole : (order : List ℕ) (cells : List StageCell) → IsCellOrder n order → AreGatesAmong n order bank cells → AreGatesOf n bank cells
  gates_whole order cells ordered so_far = record {
    each = so_far.each;
    every = λ k kind c at is_gate from. so_far.every k kind c (ordered.every k (slice_get_within n.cells k c at)) at is_gate from;
    differ = so_far.differ;
    in_order = so_far.in_order;
  }

-- so for all banks of a chain at once
module _ (n : NetlistData) (is : IsNetlist n) (free : IsFree n) (banks : List ℕ) (one_place : (i j bank : ℕ) → slice_get banks i ≡ Some bank → slice_get banks j ≡ Some bank → i ≡ j) where
  pub lists_begin : AllZip (AreGatesAmong n []) banks (replicate (length banks) [])
  lists_begin = AllZip-begin (AreGatesAmong n []) [] (gates_begin n is free) banks

  lists_more : (places : List ℕ) (k bank : ℕ) (lists : List (List StageCell)) (g : StageCell) → AllZip (AreGatesAmong n places) banks lists → slice_get banks k ≡ Some bank → IsGateOf n bank g
      → (Contains places g.cell.0 → ⊥) → ((net j : ℕ) → Contains g.ins.items (record { 0 = net }) → Drives n j net → Contains places j)
      → AllZip (AreGatesAmong n (places ++ g.cell.0 ∷ [])) banks (set lists k (get_or lists k [] ++ g ∷ []))
  lists_more places k bank lists g so_far at of_g new placed =
      AllZip-set (AreGatesAmong n places) (AreGatesAmong n (places ++ g.cell.0 ∷ [])) banks lists k bank [] (get_or lists k [] ++ g ∷ []) so_far at
      (λ among. gates_more n is free bank places (get_or lists k []) g among of_g new placed)
      (λ j other cells differ at_j among. gates_pass n is free other places cells g.cell.0 among (λ kind c at_c is_gate from.
      let one = same_cell n g.cell.0 g.cell.0 c of_g.cell (λ i. g.cell.0) at_c of_g.at in
      let same : RailOf other ≡ RailOf bank = one_origin n is free of_g.cell.out.0 (RailOf other) (RailOf bank) (subst (λ (x : Cell). ComesFrom n x.out.0 (RailOf other)) one from) of_g.reads in
      let banks_same : other ≡ bank = cc in
      differ (one_place j k bank (subst (λ r. slice_get banks j ≡ Some r) banks_same at_j) at)))

  lists_pass : (places : List ℕ) (p : ℕ) (c : Cell) (lists : List (List StageCell)) → AllZip (AreGatesAmong n places) banks lists → CellAt n p c
      → ((bank : ℕ) (kind : Kind) → c.kind ≡ Gate kind → ComesFrom n c.out.0 (RailOf bank) → ⊥) → AllZip (AreGatesAmong n (places ++ p ∷ [])) banks lists
  lists_pass places p c lists so_far at none =
      AllZip-same (AreGatesAmong n places) (AreGatesAmong n (places ++ p ∷ [])) banks lists so_far (λ k bank cells at_k among. gates_pass n is free bank places cells p among (λ kind d at_d is_gate from.
      let one = same_cell n p p d c (λ i. p) at_d at in
      none bank kind (subst (λ (x : Cell). x.kind ≡ Gate kind) one is_gate) (subst (λ (x : Cell). ComesFrom n x.out.0 (RailOf bank)) one from)))

  -- at a place of an order of the cells, a gate cell of a bank is put to the list of the bank
  pub lists_put : (order : List ℕ) → IsCellOrder n order → (k : ℕ) → k < length order → (c : Cell) → CellAt n (get_or order k 0) c → (number bank : ℕ) (kind : Kind) (lists : List (List StageCell)) (g : StageCell)
      → AllZip (AreGatesAmong n (take k order)) banks lists → slice_get banks number ≡ Some bank → c.kind ≡ Gate kind → ComesFrom n c.out.0 (RailOf bank)
      → g.cell.0 ≡ get_or order k 0 → g.kind ≡ kind → g.ins.items ≡ c.ins.items → g.out ≡ c.out
      → AllZip (AreGatesAmong n (take (k + 1) order)) banks (set lists number (get_or lists number [] ++ g ∷ []))
  lists_put order ordered k lt c at number bank kind lists g so_far at_number is_gate from place kinds ins out =
      let of_g : IsGateOf n bank g = record {
        cell = c;
        at = subst (λ p. CellAt n p c) (sym place) at;
        kind = is_gate ∙ ap Gate (sym kinds);
        ins = sym ins;
        out = sym out;
        reads = from;
      } in
      subst (λ places. AllZip (AreGatesAmong n places) banks (set lists number (get_or lists number [] ++ g ∷ []))) (ap (λ p. take k order ++ p ∷ []) place ∙ sym (take_more order k 0 lt))
      (lists_more (take k order) number bank lists g so_far at_number of_g
      (λ among. new_at order k ordered.once lt (subst (Contains (take k order)) place among))
      (λ net j among drives. ordered.reads (take k order) (get_or order k 0) (drop (k + 1) order) (cut_at order k 0 lt) c at (kind, is_gate) net j (subst (λ l. Contains l (record { 0 = net })) ins among) drives))

  -- and any other cell is passed by
  pub lists_keep : (order : List ℕ) (k : ℕ) → k < length order → (c : Cell) → CellAt n (get_or order k 0) c → (lists : List (List StageCell)) → AllZip (AreGatesAmong n (take k order)) banks lists
      → ((bank : ℕ) (kind : Kind) → c.kind ≡ Gate kind → ComesFrom n c.out.0 (RailOf bank) → ⊥) → AllZip (AreGatesAmong n (take (k + 1) order)) banks lists
  lists_keep order k lt c at lists so_far none =
      subst (λ places. AllZip (AreGatesAmong n places) banks lists) (sym (take_more order k 0 lt)) (lists_pass (take k order) (get_or order k 0) c lists so_far at none)

  pub lists_whole : (order : List ℕ) (lists : List (List StageCell)) → IsCellOrder n order → AllZip (AreGatesAmong n order) banks lists → AllZip (AreGatesOf n) banks lists
  lists_whole order lists ordered so_far = AllZip-same (AreGatesAmong n order) (AreGatesOf n) banks lists so_far (λ k bank cells at among. gates_whole n is free bank order cells ordered among)
