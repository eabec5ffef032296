-- The cells that are planned for a bank are its parts.
use Rattle.ncl_bank.proofs.Terms.{Ack, All, All-from_members, All-same, AreBankParts, BankParts, CanBeBank, Contains, Contains-append_right, Contains-from_Member, Contains-get_or, Contains-push, GatesData, HasAllPins, IsCompletion, IsFreeOf, IsNetOf, IsPartName, IsTreeCell, List, Member, Member-append_cases, Member-from_Contains, Member-map, NamePair, PartCell, Register, Some, StageCell, TreeReads, Unnamed, [], ack_of, ap, append_assoc, arith, bank_pins, cases_lt, cell_at, cell_is_no_net, cell_name-IsPartName, cell_name_of, digits_36, drop, get_or, get_or_append_left, get_or_default, get_or_push, here, inl, input_names, inr, length, length-append, length-map, length-map-range_with_len, length-zip, map, map-append, member_of_map, most_parts, name_at, named_from, names_of_nets, net_name-IsPartName, net_name_of, nil_from_length, output_name, pair_names, range_with_len, refl, register_with, same_cell, slice_get, slice_get-from_Contains, slice_get-get_or, slice_get_within, subst, sym, take, take-append-drop, there, tree_cell_of, zip, ℕ, ◌*◌, ◌++◌, ◌+◌, ◌-◌, ◌<◌, ◌∙◌, ◌∷◌, ◌≡◌, ◌≢◌, ◌≤◌}
use Rattle.ncl_bank.proofs.Apart.{AreApart, apart_from_differ, differ_from_apart, pairs-range, pairs-right}
use Rattle.ncl_bank.proofs.BankNets.{length-names_of_nets, root_or_made, nets_apart}
use Rattle.ncl_bank.proofs.BankPins.{inputs_of, output_of, pins-registers, outputs-registers, inputs-acks, outputs-acks, inputs-tree_cell, pins-tree_cell, outputs-tree}
use Rattle.ncl_bank.proofs.Named.{named_from-append, length-named_from, map-named_from, names-named_from, All-named_from, planned_at, member_named}
use Rattle.ncl_bank.proofs.Numbered.{net_at, stands, IsTreeByNumber, IsTreeByNumber-completion}
use Rattle.ncl_bank.proofs.Zipped.{length-registers_of}

module _ (ins outs : List NamePair) (request rst root prefix : List ℕ) (can : CanBeBank ins outs request rst root prefix) (gates : GatesData) (is : IsCompletion (length ins) gates) where
  abbrev bits : ℕ
  bits = length ins

  abbrev count : ℕ
  count = bits + length gates.cells

  abbrev nets : List (List ℕ)
  nets = names_of_nets prefix root (2 * bits) count

  abbrev registers_plan : List Unnamed
  registers_plan = map register_with (bank_pins ins outs request rst)

  abbrev acks_plan : List Unnamed
  acks_plan = map ack_of (zip outs nets)

  abbrev tree_plan : List Unnamed
  tree_plan = map (tree_cell_of nets) gates.cells

  abbrev registers : List PartCell
  registers = named_from prefix 0 registers_plan

  abbrev acks : List PartCell
  acks = named_from prefix (2 * bits) acks_plan

  abbrev tree : List PartCell
  tree = named_from prefix (2 * bits + bits) tree_plan

  -- ---- how many there are

  some_nets : 0 < count
  some_nets = omega (arith, can.some)

  pub length-nets : length nets ≡ count
  length-nets = length-names_of_nets prefix root (2 * bits) count some_nets

  pub length-registers : length registers_plan ≡ 2 * bits
  length-registers =
      omega (arith, length-registers_of request rst (zip ins outs), length-zip ins outs, can.as_many)

  pub length-acks : length acks_plan ≡ bits
  length-acks =
      omega (arith, length-map (zip outs nets) ack_of, length-zip outs nets, can.as_many, length-nets)

  pub length-tree : length tree_plan ≡ length gates.cells
  length-tree = length-map gates.cells (tree_cell_of nets)

  -- all cells, named from the first on
  abbrev plan : List Unnamed
  plan = registers_plan ++ (acks_plan ++ tree_plan)

  whole : registers ++ (acks ++ tree) ≡ named_from prefix 0 plan
  whole =
      let acks_place : 2 * bits ≡ 0 + length registers_plan = omega (arith, length-registers) in
      let tree_place : 2 * bits + bits ≡ (0 + length registers_plan) + length acks_plan = omega (arith, length-registers, length-acks) in
      sym (named_from-append prefix 0 registers_plan (acks_plan ++ tree_plan)
      ∙ ap (λ cells. registers ++ cells) (named_from-append prefix (0 + length registers_plan) acks_plan tree_plan)
      ∙ (λ i. registers ++ (named_from prefix (sym acks_place i) acks_plan ++ named_from prefix (sym tree_place i) tree_plan)))

  few_cells : length (named_from prefix 0 plan) ≤ 4 * bits
  few_cells =
      omega (arith, length-named_from prefix 0 plan, length-append registers_plan (acks_plan ++ tree_plan), length-append acks_plan tree_plan, length-registers, length-acks, length-tree, is.few, can.some)

  -- ---- the nets that they drive

  outputs-named : (place : ℕ) (cells : List Unnamed) → map output_name (named_from prefix place cells) ≡ map output_of cells
  outputs-named = map-named_from output_name output_of prefix (λ place x. refl)

  -- acknowledge and tree cells drive the nets in order
  outputs : map output_name (acks ++ tree) ≡ nets
  outputs =
      map-append output_name acks tree
      ∙ (λ i. outputs-named (2 * bits) acks_plan i ++ outputs-named (2 * bits + bits) tree_plan i)
      ∙ (λ i. outputs-acks outs nets (omega (arith, can.as_many, length-nets)) i ++ outputs-tree nets bits gates.cells (IsTreeByNumber-completion bits gates is).out (sym length-nets) i)
      ∙ ap (λ n. take n nets ++ drop bits nets) can.as_many
      ∙ take-append-drop bits nets

  all_outputs : map output_name (named_from prefix 0 plan) ≡ pair_names outs ++ nets
  all_outputs =
      ap (map output_name) (sym whole)
      ∙ map-append output_name registers (acks ++ tree)
      ∙ (λ i. (outputs-named 0 registers_plan ∙ outputs-registers request rst ins outs can.as_many) i ++ outputs i)

  -- ---- that they differ

  given_differ : AreApart (root ∷ pair_names outs)
  given_differ =
      pairs-right (λ x y. x ≢ y) (request ∷ rst ∷ []) (root ∷ pair_names outs) (apart_from_differ (request ∷ rst ∷ root ∷ pair_names outs) can.differ)

  free : IsFreeOf prefix (root ∷ pair_names outs)
  free rest m = can.free rest (Contains-append_right (request ∷ rst ∷ []) (root ∷ pair_names outs) (prefix ++ rest) m)

  numbers_fit : 2 * bits + count ≤ most_parts
  numbers_fit = omega (arith, can.few, is.few)

  all_apart : AreApart (pair_names outs ++ nets)
  all_apart = nets_apart prefix root (2 * bits) count some_nets (pair_names outs) given_differ free numbers_fit

  cells_apart : AreApart (map (λ (cell : PartCell). cell.name) (named_from prefix 0 plan))
  cells_apart =
      subst AreApart (sym (names-named_from prefix 0 plan))
      (pairs-range (λ x y. x ≢ y) (cell_name_of prefix) 0 (length plan) (λ i j less below same.
      let few : length plan ≤ most_parts = omega (arith, few_cells, length-named_from prefix 0 plan, can.few) in
      absurd (omega (arith, less, same_cell prefix i j (omega arith) (omega arith) same))))

  -- the root is the last net, and no other is named like it
  root_at : get_or nets (count - 1) [] ≡ root
  root_at = get_or_push (map (net_name_of prefix) (range_with_len (2 * bits) (count - 1))) root [] (count - 1) (length-map-range_with_len (net_name_of prefix) (2 * bits) (count - 1))

  root_is_last : (number : ℕ) → number < count → get_or nets number [] ≡ root → number + 1 ≡ count
  root_is_last number below is_root =
      elim (cases_lt (number + 1) count) [
        | inl less ↦
            let last : count - 1 < length nets = omega (arith, length-nets, some_nets) in
            absurd (pairs-right (λ x y. x ≢ y) (pair_names outs) nets all_apart number (count - 1) [] (omega arith) last (is_root ∙ sym root_at))
        | inr over ↦ omega (arith, below, over)
      ]

  -- ---- what they read

  numbered : IsTreeByNumber bits gates.cells
  numbered = IsTreeByNumber-completion bits gates is

  -- the cell at a place of the tree is that of the gate at the place
  record IsOfGate (i : ℕ) (cell : PartCell) : Type 0 where
    gate : StageCell
    at : slice_get gates.cells i ≡ Some gate
    inputs : input_names cell ≡ map (name_at nets) gate.ins.items

  of_gate : (i : ℕ) (cell : PartCell) → slice_get tree i ≡ Some cell → IsOfGate i cell
  of_gate i cell at =
      let planned = planned_at (tree_cell_of nets) prefix (2 * bits + bits) gates.cells i cell at in
      record { gate = planned.item; at = planned.at; inputs = ap input_names planned.is ∙ inputs-tree_cell nets planned.item }

  is_tree_cell : (gate : StageCell) → Member gate gates.cells → (place : ℕ) → IsTreeCell (cell_at prefix place (tree_cell_of nets gate))
  is_tree_cell gate m place =
      let fits = numbered.family gate m in
      record { kind = (gate.kind, refl, fits.kind); all_pins = pins-tree_cell nets gate fits }

  reads_earlier : TreeReads acks tree
  reads_earlier before after cell split =
      let of = of_gate (length before) cell (ap (λ cells. slice_get cells (length before)) split ∙ stands before after cell) in
      let known : List (List ℕ) = map output_name (acks ++ before) in
      let rest : List (List ℕ) = map output_name (cell ∷ after) in
      let all : known ++ rest ≡ nets =
      sym (map-append output_name (acks ++ before) (cell ∷ after))
      ∙ ap (map output_name) (append_assoc acks before (cell ∷ after) ∙ ap (λ cells. acks ++ cells) (sym split))
      ∙ outputs in
      let length-known : length known ≡ bits + length before =
      length-map (acks ++ before) output_name ∙ length-append acks before ∙ ap (λ n. n + length before) (length-named_from prefix (2 * bits) acks_plan ∙ length-acks) in
      All-same (Contains known) (input_names cell) (map (name_at nets) of.gate.ins.items) of.inputs
      (All-from_members (Contains known) (map (name_at nets) of.gate.ins.items) (λ name m.
      let (net, n, named) = member_of_map (name_at nets) of.gate.ins.items name m in
      let below : net.0 < length known = omega (arith, numbered.reads (length before) of.gate of.at net n, length-known) in
      subst (Contains known) (sym (get_or_append_left known rest [] net.0 below) ∙ ap (λ names. get_or names net.0 []) all ∙ named) (Contains-get_or known net.0 [] below)))

  read_by_tree : (name : List ℕ) → Contains (map output_name (acks ++ tree)) name → name ≢ root → (cell : PartCell) × Contains tree cell × Contains (input_names cell) name
  read_by_tree name m other =
      let (number, within, at) = subst (λ names. Contains names name) outputs m in
      let here : get_or nets number [] ≡ name = get_or_default nets number [] name within ∙ at in
      let below : number < count = omega (arith, within, length-nets) in
      let earlier : number + 1 < count =
      elim (cases_lt (number + 1) count) [
        | inl less ↦ less
        | inr over ↦
            let last : number ≡ count - 1 = omega (arith, over, below) in
            absurd (other (sym here ∙ ap (λ n. get_or nets n []) last ∙ root_at))
      ] in
      let (gate, in_gates, reads) = numbered.read number earlier in
      let (place, in_tree) = member_named prefix (tree_cell_of nets gate) (2 * bits + bits) (Member-map (tree_cell_of nets) gate in_gates) in (
        cell_at prefix place (tree_cell_of nets gate),
        Contains-from_Member (cell_at prefix place (tree_cell_of nets gate)) in_tree,
        subst (λ names. Contains names name) (sym (inputs-tree_cell nets gate)) (subst (Contains (map (name_at nets) gate.ins.items)) here (Contains-from_Member (name_at nets (net_at number)) (Member-map (name_at nets) (net_at number) reads))),
      )

  root_is_unread : (cell : PartCell) → Contains tree cell → Contains (input_names cell) root → ⊥
  root_is_unread cell m reads =
      let (i, at) = slice_get-from_Contains tree cell m in
      let of = of_gate i cell at in
      let (net, n, named) = member_of_map (name_at nets) of.gate.ins.items root (Member-from_Contains (map (name_at nets) of.gate.ins.items) root (subst (λ names. Contains names root) of.inputs reads)) in
      let below = numbered.reads i of.gate of.at net n in
      let within = slice_get_within gates.cells i of.gate of.at in
      omega (arith, below, within, root_is_last net.0 (omega (arith, below, within)) named)

  -- ---- how they are named

  made_or_root : (name : List ℕ) → Contains (map output_name (acks ++ tree)) name → name ≢ root → IsPartName prefix name
  made_or_root name m other =
      elim (root_or_made prefix root (2 * bits) count some_nets name (Member-from_Contains nets name (subst (λ names. Contains names name) outputs m))) [
        | inl is_root ↦ absurd (other is_root)
        | inr (k, made) ↦ subst (IsPartName prefix) (sym made) (net_name-IsPartName prefix k)
      ]

  cell_is_no_output : (cell other : PartCell) → Contains (named_from prefix 0 plan) cell → Contains (named_from prefix 0 plan) other → cell.name ≢ output_name other
  cell_is_no_output cell other m n same =
      let (k, in_range, named) = member_of_map (cell_name_of prefix) (range_with_len 0 (length plan)) cell.name
      (subst (Member cell.name) (names-named_from prefix 0 plan) (Member-map (λ (cell : PartCell). cell.name) cell (Member-from_Contains (named_from prefix 0 plan) cell m))) in
      let is_net : Member (output_name other) (pair_names outs ++ nets) = subst (Member (output_name other)) all_outputs (Member-map output_name other (Member-from_Contains (named_from prefix 0 plan) other n)) in
      elim (Member-append_cases (output_name other) (pair_names outs) nets is_net) [
        | inl given ↦ unmade k (output_name other) (there given) (named ∙ same)
        | inr net ↦ elim (root_or_made prefix root (2 * bits) count some_nets (output_name other) net) [
          | inl is_root ↦ unmade k root here (named ∙ same ∙ is_root)
          | inr (j, made) ↦ cell_is_no_net prefix k j (named ∙ same ∙ made)
        ]
      ]
    where
      unmade : (k : ℕ) (name : List ℕ) → Member name (root ∷ pair_names outs) → cell_name_of prefix k ≡ name → ⊥
      unmade k name m named = free (99 ∷ digits_36 6 k) (subst (Contains (root ∷ pair_names outs)) (sym named) (Contains-from_Member name m))

  -- ---- all of it

  pub AreBankParts-planned : (parts : BankParts) → parts.cells ≡ registers ++ (acks ++ tree) → AreBankParts ins outs request rst root prefix parts
  AreBankParts-planned parts cells =
      let all : parts.cells ≡ named_from prefix 0 plan = cells ∙ whole in
      record {
        registers = registers;
        acks = acks;
        tree = tree;
        cells = cells;
        register_kinds = All-named_from (λ cell. cell.kind ≡ Register) prefix 0 registers_plan (λ k x m. let (pins, n, same) = member_of_map register_with (bank_pins ins outs request rst) x m in ap (λ (x : Unnamed). x.kind) (sym same));
        register_pins = map-named_from (λ (cell : PartCell). cell.pins) (λ (x : Unnamed). x.pins) prefix (λ place x. refl) 0 registers_plan ∙ pins-registers (bank_pins ins outs request rst);
        ack_kinds = All-named_from (λ cell. cell.kind ≡ Ack) prefix (2 * bits) acks_plan (λ k x m. let (pair, n, same) = member_of_map ack_of (zip outs nets) x m in ap (λ (x : Unnamed). x.kind) (sym same));
        ack_inputs = map-named_from input_names inputs_of prefix (λ place x. refl) (2 * bits) acks_plan ∙ inputs-acks outs nets (omega (arith, can.as_many, length-nets));
        ack_pins = All-named_from HasAllPins prefix (2 * bits) acks_plan (λ k x m. let (pair, n, same) = member_of_map ack_of (zip outs nets) x m in subst (λ x. HasAllPins (cell_at prefix k x)) same refl);
        tree_cells = All-named_from IsTreeCell prefix (2 * bits + bits) tree_plan (λ k x m. let (gate, n, same) = member_of_map (tree_cell_of nets) gates.cells x m in subst (λ x. IsTreeCell (cell_at prefix k x)) same (is_tree_cell gate n k));
        tree_reads = reads_earlier;
        all_read = read_by_tree;
        root_driven = subst (λ names. Contains names root) (sym outputs) (Contains-push (map (net_name_of prefix) (range_with_len (2 * bits) (count - 1))) root);
        root_unread = root_is_unread;
        one_bit = λ one. nil_from_length tree (omega (arith, one, is.few, length-named_from prefix (2 * bits + bits) tree_plan, length-tree));
        few = omega (arith, ap length all, few_cells);
        cell_names = All-same (λ (cell : PartCell). IsPartName prefix cell.name) parts.cells (named_from prefix 0 plan) all (All-named_from (λ cell. IsPartName prefix cell.name) prefix 0 plan (λ k x m. cell_name-IsPartName prefix k));
        inner_names = made_or_root;
        cells_differ = differ_from_apart (map (λ (cell : PartCell). cell.name) parts.cells) (subst (λ cells. AreApart (map (λ (cell : PartCell). cell.name) cells)) (sym all) cells_apart);
        nets_differ = differ_from_apart (map output_name parts.cells) (subst AreApart (sym (ap (map output_name) all ∙ all_outputs)) all_apart);
        no_cell_is_net = λ cell other m n. cell_is_no_output cell other (subst (λ cells. Contains cells cell) all m) (subst (λ cells. Contains cells other) all n);
      }

  -- ---- as they are added, one list after the other

  pub registers_added : (none first : List PartCell) → none ≡ [] → first ≡ none ++ named_from prefix (length none) registers_plan → first ≡ registers
  registers_added none first empty added = added ∙ (λ i. empty i ++ named_from prefix (length (empty i)) registers_plan)

  pub length-registers_added : (first : List PartCell) → first ≡ registers → length first ≡ 2 * bits
  length-registers_added first added = ap length added ∙ length-named_from prefix 0 registers_plan ∙ length-registers

  pub acks_added : (found : List (List ℕ)) (first second : List PartCell) → found ≡ nets → first ≡ registers → second ≡ first ++ named_from prefix (length first) (map ack_of (zip outs found)) → second ≡ registers ++ acks
  acks_added found first second found_is begun added =
      added ∙ (λ i. begun i ++ named_from prefix (length-registers_added first begun i) (map ack_of (zip outs (found_is i))))

  pub length-acks_added : (second : List PartCell) → second ≡ registers ++ acks → length second ≡ 2 * bits + bits
  length-acks_added second added =
      ap length added ∙ length-append registers acks
      ∙ (λ i. (length-named_from prefix 0 registers_plan ∙ length-registers) i + (length-named_from prefix (2 * bits) acks_plan ∙ length-acks) i)

  pub tree_added : (found : List (List ℕ)) (second third : List PartCell) → found ≡ nets → second ≡ registers ++ acks → third ≡ second ++ named_from prefix (length second) (map (tree_cell_of found) gates.cells) → third ≡ registers ++ (acks ++ tree)
  tree_added found second third found_is begun added =
      added ∙ (λ i. begun i ++ named_from prefix (length-acks_added second begun i) (map (tree_cell_of (found_is i)) gates.cells))
      ∙ append_assoc registers acks tree

  -- the nets of the tree are among those
  pub inputs_within : (found : List (List ℕ)) → found ≡ nets → All (λ (gate : StageCell). All (IsNetOf found) gate.ins.items) gates.cells
  inputs_within found found_is k d within =
      let gate = get_or gates.cells k d in
      All-from_members (IsNetOf found) gate.ins.items (λ net m.
      omega (arith, within, numbered.reads k gate (slice_get-get_or gates.cells k d within) net m, ap length found_is, length-nets))

  pub outputs_within : (found : List (List ℕ)) → found ≡ nets → All (λ (gate : StageCell). IsNetOf found gate.out) gates.cells
  outputs_within found found_is k d within =
      omega (arith, within, numbered.out k (get_or gates.cells k d) (slice_get-get_or gates.cells k d within), ap length found_is, length-nets)
