-- Gates by names: their pins, the names that they know, and the names of cells and nets.
use Rattle.ncl_rails.proofs.Terms.{All, All-from_members, AreNumbered, CanBeNamed, Contains, Contains-from_Member, GatesData, HasAllPins, IsInOrder, IsNamed, List, Member, Member-append_cases, Member-from_Contains, Member-map, NamePair, NetId, PartCell, Rails, ReadsKnown, StageCell, [], ap, arith, arity_of, here, inl, input_names, input_pair, input_pairs, inr, length, length-map, length_push, map, map-append, member_of_map, most_parts, name_of_net, name_of_pair, names_known, nets_of, out_of, output_name, pair_names, part_of_gate, pins_of-gate, rail_nets, range_with_len, refl, slice_get-from_Contains, slice_get_within, slice_index_or, split_at, subst, suc, sym, take, there, zero, ℕ, ◌*◌, ◌++◌, ◌+◌, ◌-◌, ◌<◌, ◌∙◌, ◌∷◌, ◌≡◌, ◌≤◌}
use Rattle.ncl_rails.proofs.Lists.{at_member, but_last, last_at, map_split}
use Rattle.ncl_rails.proofs.Laying.{known_left}
use Rattle.ncl_rails.proofs.NetNames.{pair_names-cons, inputs_named}

-- ---- pins

module _ (names : List (List ℕ)) (prefix : List ℕ) where
  pins : (c : StageCell) → (part_of_gate names prefix c).pins ≡ map (λ (net : NetId). name_of_net names prefix net.0) c.ins.items ++ name_of_net names prefix c.out.0 ∷ []
  pins c = map-append (λ (net : NetId). name_of_net names prefix net.0) c.ins.items (c.out ∷ [])

  -- the names at the inputs and at the output of a gate
  pub gate_inputs : (c : StageCell) → input_names (part_of_gate names prefix c) ≡ map (λ (net : NetId). name_of_net names prefix net.0) c.ins.items
  gate_inputs c = ap (λ ps. take (length ps - 1) ps) (pins c) ∙ but_last (map (λ (net : NetId). name_of_net names prefix net.0) c.ins.items) (name_of_net names prefix c.out.0)

  pub gate_output : (c : StageCell) → output_name (part_of_gate names prefix c) ≡ name_of_net names prefix c.out.0
  gate_output c = ap (λ ps. slice_index_or ps (length ps - 1) []) (pins c) ∙ last_at (map (λ (net : NetId). name_of_net names prefix net.0) c.ins.items) (name_of_net names prefix c.out.0) []

  gate_outputs : (cells : List StageCell) → map output_name (map (part_of_gate names prefix) cells) ≡ map (name_of_net names prefix) (map out_of cells)
  gate_outputs [] = refl
  gate_outputs (c ∷ cells) = λ i. gate_output c i ∷ gate_outputs cells i

  pub gate_pins : (c : StageCell) → length c.ins.items ≡ arity_of c.kind → HasAllPins (part_of_gate names prefix c)
  gate_pins c arity =
      omega (arith, ap length (pins c), length_push (map (λ (net : NetId). name_of_net names prefix net.0) c.ins.items) (name_of_net names prefix c.out.0), length-map c.ins.items (λ (net : NetId). name_of_net names prefix net.0), arity, pins_of-gate c.kind)

  -- the names of the nets of pairs
  pairs_named : (pairs : List Rails) → pair_names (map (name_of_pair names prefix) pairs) ≡ map (name_of_net names prefix) (rail_nets pairs)
  pairs_named [] = refl
  pairs_named (r ∷ pairs) = pair_names-cons (name_of_pair names prefix r) (map (name_of_pair names prefix) pairs) ∙ ap (λ rest. name_of_net names prefix r.zero.0 ∷ name_of_net names prefix r.one.0 ∷ rest) (pairs_named pairs)

-- ---- the names that are known

module _ (ins : List NamePair) (prefix : List ℕ) where
  -- the names that gates know are those of the nets that they know
  pub known_named : (n : ℕ) → length ins ≡ n → (cells : List StageCell) → names_known ins (map (part_of_gate (pair_names ins) prefix) cells) ≡ map (name_of_net (pair_names ins) prefix) (nets_of (input_pairs n) cells)
  known_named n count cells =
      (λ i. (ap pair_names (sym (inputs_named ins prefix n count)) ∙ pairs_named (pair_names ins) prefix (input_pairs n)) i ++ gate_outputs (pair_names ins) prefix cells i)
      ∙ sym (map-append (name_of_net (pair_names ins) prefix) (rail_nets (input_pairs n)) (map out_of cells))

  known_name : (n : ℕ) → length ins ≡ n → (cells : List StageCell) (net : ℕ) → Contains (nets_of (input_pairs n) cells) net → Contains (names_known ins (map (part_of_gate (pair_names ins) prefix) cells)) (name_of_net (pair_names ins) prefix net)
  known_name n count cells net known =
      Contains-from_Member (name_of_net (pair_names ins) prefix net)
      (subst (Member (name_of_net (pair_names ins) prefix net)) (sym (known_named n count cells))
      (Member-map (name_of_net (pair_names ins) prefix) net (Member-from_Contains (nets_of (input_pairs n) cells) net known)))

  -- gates in order read names that are known
  pub reads_known : (n : ℕ) → length ins ≡ n → (cells : List StageCell) → IsInOrder (input_pairs n) cells → ReadsKnown ins (map (part_of_gate (pair_names ins) prefix) cells)
  reads_known n count cells in_order before after cell is =
      let (left, c, right, cut, front, at) = map_split (part_of_gate (pair_names ins) prefix) cells before cell after is in
      let reads = in_order left right c cut in
      subst (λ xs. All (Contains (names_known ins xs)) (input_names cell)) front
      (subst (λ (p : PartCell). All (Contains (names_known ins (map (part_of_gate (pair_names ins) prefix) left))) (input_names p)) at
      (subst (All (Contains (names_known ins (map (part_of_gate (pair_names ins) prefix) left)))) (sym (gate_inputs (pair_names ins) prefix c))
      (All-from_members (Contains (names_known ins (map (part_of_gate (pair_names ins) prefix) left))) (map (λ (net : NetId). name_of_net (pair_names ins) prefix net.0) c.ins.items) (λ name m.
      let (net, among, named) = member_of_map (λ (net : NetId). name_of_net (pair_names ins) prefix net.0) c.ins.items name m in
      subst (Contains (names_known ins (map (part_of_gate (pair_names ins) prefix) left))) named
      (known_name n count left net.0 (at_member (λ (x : NetId). Contains (nets_of (input_pairs n) left) x.0) c.ins.items reads net (Contains-from_Member net among)))))))

  -- the names of pairs of known nets are known
  pub pairs_known_named : (n : ℕ) → length ins ≡ n → (cells : List StageCell) (pairs : List Rails) → ((net : ℕ) → Member net (rail_nets pairs) → Contains (nets_of (input_pairs n) cells) net) → All (Contains (names_known ins (map (part_of_gate (pair_names ins) prefix) cells))) (pair_names (map (name_of_pair (pair_names ins) prefix) pairs))
  pairs_known_named n count cells pairs known =
      subst (All (Contains (names_known ins (map (part_of_gate (pair_names ins) prefix) cells)))) (sym (pairs_named (pair_names ins) prefix pairs))
      (All-from_members (Contains (names_known ins (map (part_of_gate (pair_names ins) prefix) cells))) (map (name_of_net (pair_names ins) prefix) (rail_nets pairs)) (λ name m.
      let (net, among, named) = member_of_map (name_of_net (pair_names ins) prefix) (rail_nets pairs) name m in
      subst (Contains (names_known ins (map (part_of_gate (pair_names ins) prefix) cells))) named (known_name n count cells net (known net among))))

-- ---- nets that have names

rails_below : (a m net : ℕ) → Member net (rail_nets (map input_pair (range_with_len a m))) → net < 2 * (a + m)
rails_below a zero net m = elim m [ ]
rails_below a (suc n) _ here = omega arith
rails_below a (suc n) _ (there here) = omega arith
rails_below a (suc n) net (there (there m)) = let less = rails_below (a + 1) n net m in omega (arith, less)

module _ (gates : GatesData) (numbered : AreNumbered gates) (n : ℕ) (first : gates.first ≡ 2 * n) (few : length gates.cells ≤ most_parts) where
  pub net_below : (net : ℕ) → Contains (nets_of (input_pairs n) gates.cells) net → IsNamed n net
  net_below net known =
      elim (Member-append_cases net (rail_nets (input_pairs n)) (map out_of gates.cells) (Member-from_Contains (nets_of (input_pairs n) gates.cells) net known)) [
        | inl rail ↦ let below = rails_below 0 n net rail in omega (arith, below)
        | inr driven ↦
            let (c, among, is) = member_of_map out_of gates.cells net driven in
            let (k, at) = slice_get-from_Contains gates.cells c (Contains-from_Member c among) in
            let within : k < length gates.cells = slice_get_within gates.cells k c at in
            omega (arith, numbered.nets k c at, is, first, few, within)
      ]

  pub can_be_named : IsInOrder (input_pairs n) gates.cells → All (CanBeNamed n) gates.cells
  can_be_named in_order =
      All-from_members (CanBeNamed n) gates.cells (λ c m.
      let (k, at) = slice_get-from_Contains gates.cells c (Contains-from_Member c m) in
      let within : k < length gates.cells = slice_get_within gates.cells k c at in
      let (before, after, cut) = split_at gates.cells c (Contains-from_Member c m) in
      record {
        cell = omega (arith, numbered.cells k c at, within, few);
        ins = All-from_members (λ (net : NetId). IsNamed n net.0) c.ins.items (λ net among.
            net_below net.0
            (subst (λ cells. Contains (nets_of (input_pairs n) cells) net.0) (sym cut)
            (known_left (input_pairs n) before (c ∷ after) net.0 (at_member (λ (x : NetId). Contains (nets_of (input_pairs n) before) x.0) c.ins.items (in_order before after c cut) net (Contains-from_Member net among)))));
        out = omega (arith, numbered.nets k c at, first, few, within);
      })
