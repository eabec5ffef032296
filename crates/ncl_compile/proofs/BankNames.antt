-- The names at the pins of the cells of one bank, and of one stage: what is driven, and what is read.
use Rattle.ncl_compile.proofs.Terms.{All-member, AreBankParts, AreStageParts, BankParts, Contains, Contains-from_Member, HasAllPins, IsPartName, IsTreeCell, List, Member, Member-append_cases, Member-append_left, Member-append_right, Member-flat_map, Member-from_Contains, Member-map, NamePair, Network, PartCell, Register, StageParts, [], ap, arith, bank_pins, cases_Bool, divided_at, equal_names, get_or, here, inl, input_names, inr, length, map, member_at, member_cases, member_of_flat_map, member_of_map, names_known, output_name, pair_list, pair_names, pins_of, pins_of-some, place_of_member, same_itself, same_name, slice_get-some, slice_get_within, slice_index_or, subst, suc, sym, take, there, true≢false, zero, ℕ, ◌*◌, ◌++◌, ◌+◌, ◌-◌, ◌∙◌, ◌∷◌, ◌≡◌, ◌⊎◌}
use Rattle.ncl_compile.proofs.BankCells.{register_zero, register_one}

-- a member of a list is one of the first, or the last
last_cases : {X : Type 0} (xs : List X) (k : ℕ) (d x : X) → length xs ≡ suc k → Member x xs → Member x (take k xs) ⊎ (get_or xs k d ≡ x)
last_cases [] k d x long m = absurd (omega (arith, long))
last_cases (y ∷ []) zero d x long m = elim (member_cases x y [] m) [ inl same ↦ inr same | inr none ↦ elim none [ ] ]
last_cases (y ∷ (z ∷ xs)) zero d x long m = absurd (omega (arith, long))
last_cases (y ∷ xs) (suc k) d x long m =
    elim (member_cases x y xs m) [
      | inl same ↦ inl (subst (λ z. Member z (y ∷ take k xs)) same here)
      | inr rest ↦ elim (last_cases xs k d x (omega (arith, long)) rest) [ inl first ↦ inl (there first) | inr last ↦ inr last ]
    ]

-- a name at a pin is that of an input or of the output
pub pin_cases : (c : PartCell) (x : List ℕ) → HasAllPins c → Member x c.pins → Member x (input_names c) ⊎ (output_name c ≡ x)
pin_cases c x pins m =
    let some = pins_of-some c.kind in
    last_cases c.pins (length c.pins - 1) [] x (omega (arith, pins, some)) m

-- the pins of a register cell
record RegisterPins (ins outs : List NamePair) (request rst : List ℕ) (pins : List (List ℕ)) : Type 0 where
  from : List ℕ
  to : List ℕ
  reads : Member from (pair_names ins)
  drives : Member to (pair_names outs)
  are : pins ≡ from ∷ request ∷ rst ∷ to ∷ []

register_cases : (ins outs : List NamePair) (request rst : List ℕ) (pins : List (List ℕ)) → Member pins (bank_pins ins outs request rst) → RegisterPins ins outs request rst pins
register_cases [] outs request rst pins m = elim m [ ]
register_cases (a ∷ ins) [] request rst pins m = elim m [ ]
register_cases (a ∷ ins) (b ∷ outs) request rst pins m =
    elim (member_cases pins (a.zero ∷ request ∷ rst ∷ b.zero ∷ []) ((a.one ∷ request ∷ rst ∷ b.one ∷ []) ∷ bank_pins ins outs request rst) m) [
      | inl zero_is ↦ record { from = a.zero; to = b.zero; reads = here; drives = here; are = sym zero_is }
      | inr more ↦
          elim (member_cases pins (a.one ∷ request ∷ rst ∷ b.one ∷ []) (bank_pins ins outs request rst) more) [
            | inl one_is ↦ record { from = a.one; to = b.one; reads = there here; drives = there here; are = sym one_is }
            | inr rest ↦
                let later = register_cases ins outs request rst pins rest in
                record { from = later.from; to = later.to; reads = there (there later.reads); drives = there (there later.drives); are = later.are }
          ]
    ]

-- the output of cells that have these pins
output_of_pins : (c : PartCell) (a b r z : List ℕ) → c.pins ≡ a ∷ b ∷ r ∷ z ∷ [] → output_name c ≡ z
output_of_pins c a b r z pins = ap (λ l. slice_index_or l (length l - 1) []) pins

module _ (ins outs : List NamePair) (request rst root prefix : List ℕ) (bank : BankParts) (are : AreBankParts ins outs request rst root prefix bank) where
  abbrev others : List PartCell
  others = are.acks ++ are.tree

  abbrev driven : List (List ℕ)
  driven = map output_name bank.cells

  register_inside : (c : PartCell) → Member c are.registers → Member c bank.cells
  register_inside c m = subst (Member c) (sym are.cells) (Member-append_left c others m)

  other_inside : (c : PartCell) → Member c others → Member c bank.cells
  other_inside c m = subst (Member c) (sym are.cells) (Member-append_right are.registers c m)

  cell_cases : (c : PartCell) → Member c bank.cells → Member c are.registers ⊎ (Member c are.acks ⊎ Member c are.tree)
  cell_cases c m =
      elim (Member-append_cases c are.registers others (subst (Member c) are.cells m)) [
        | inl register ↦ inl register
        | inr other ↦ inr (Member-append_cases c are.acks are.tree other)
      ]

  pins_of_register : (c : PartCell) → Member c are.registers → RegisterPins ins outs request rst c.pins
  pins_of_register c m = register_cases ins outs request rst c.pins (subst (Member c.pins) are.register_pins (Member-map (λ (cell : PartCell). cell.pins) c m))

  -- each cell has a net at each pin
  pub bank_all_pins : (c : PartCell) → Member c bank.cells → HasAllPins c
  bank_all_pins c m =
      elim (cell_cases c m) [
        | inl register ↦
            let kind = All-member (λ (cell : PartCell). cell.kind ≡ Register) are.registers are.register_kinds c register in
            let pins = pins_of_register c register in
            ap length pins.are ∙ sym (ap (λ k. length (pins_of k)) kind)
        | inr other ↦
            elim other [
              | inl ack ↦ All-member HasAllPins are.acks are.ack_pins c ack
              | inr tree ↦ (All-member IsTreeCell are.tree are.tree_cells c tree).all_pins
            ]
      ]

  other_made : (x : List ℕ) → Member x (map output_name others) → (x ≡ root) ⊎ IsPartName prefix x
  other_made x m =
      elim (cases_Bool (same_name x root)) [
        | inl same ↦ inl (equal_names x root same)
        | inr differs ↦ inr (are.inner_names x (Contains-from_Member x m) (λ is_root. true≢false (sym (ap (same_name x) (sym is_root) ∙ same_itself x) ∙ differs)))
      ]

  -- what a bank drives: its rails, its root, and nets that it names
  pub bank_output_cases : (x : List ℕ) → Member x driven → Member x (pair_names outs) ⊎ ((x ≡ root) ⊎ IsPartName prefix x)
  bank_output_cases x m =
      let (c, in_cells, same) = member_of_map output_name bank.cells x m in
      elim (Member-append_cases c are.registers others (subst (Member c) are.cells in_cells)) [
        | inl register ↦
            let pins = pins_of_register c register in
            inl (subst (λ z. Member z (pair_names outs)) (sym (output_of_pins c pins.from request rst pins.to pins.are) ∙ same) pins.drives)
        | inr other ↦ inr (other_made x (subst (λ z. Member z (map output_name others)) same (Member-map output_name c other)))
      ]

  -- it drives its root
  pub bank_drives_root : Member root driven
  bank_drives_root =
      let (c, in_others, same) = member_of_map output_name others root (Member-from_Contains (map output_name others) root are.root_driven) in
      subst (λ z. Member z driven) same (Member-map output_name c (other_inside c in_others))

  module _ (width : ℕ) (long_ins : length ins ≡ width) (long_outs : length outs ≡ width) where
    -- and its rails
    pub bank_drives_rails : (x : List ℕ) → Member x (pair_names outs) → Member x driven
    bank_drives_rails x m =
        let (j, y, at_y, in_pair) = member_of_flat_map pair_list outs x m in
        let within = slice_get_within outs j y at_y in
        let (z, at_z) = slice_get-some ins j (omega (arith, within, long_ins, long_outs)) in
        elim (member_cases x y.zero (y.one ∷ []) in_pair) [
          | inl zero_is ↦
              let (c, at, kind, pins) = register_zero ins outs request rst root prefix bank are width long_ins long_outs j z y at_z at_y in
              subst (λ n. Member n driven) (output_of_pins c z.zero request rst y.zero pins ∙ zero_is) (Member-map output_name c (register_inside c (member_at are.registers (2 * j) c at)))
          | inr rest ↦
              elim (member_cases x y.one [] rest) [
                | inl one_is ↦
                    let (c, at, kind, pins) = register_one ins outs request rst root prefix bank are width long_ins long_outs j z y at_z at_y in
                    subst (λ n. Member n driven) (output_of_pins c z.one request rst y.one pins ∙ one_is) (Member-map output_name c (register_inside c (member_at are.registers (2 * j + 1) c at)))
                | inr none ↦ elim none [ ]
              ]
        ]

    -- what stands at its pins: what it reads, its request, the reset, and what it drives
    pub bank_pin_cases : (x : List ℕ) (c : PartCell) → Member c bank.cells → Member x c.pins → Member x (pair_names ins) ⊎ ((x ≡ request) ⊎ ((x ≡ rst) ⊎ Member x driven))
    bank_pin_cases x c in_cells in_pins =
        elim (cell_cases c in_cells) [
          | inl register ↦ of_register (pins_of_register c register)
          | inr other ↦ inr (inr (inr (of_other other)))
        ]
      where
        of_register : RegisterPins ins outs request rst c.pins → Member x (pair_names ins) ⊎ ((x ≡ request) ⊎ ((x ≡ rst) ⊎ Member x driven))
        of_register pins =
            elim (member_cases x pins.from (request ∷ rst ∷ pins.to ∷ []) (subst (Member x) pins.are in_pins)) [
              | inl first ↦ inl (subst (λ z. Member z (pair_names ins)) first pins.reads)
              | inr more ↦
                  elim (member_cases x request (rst ∷ pins.to ∷ []) more) [
                    | inl second ↦ inr (inl (sym second))
                    | inr rest ↦
                        elim (member_cases x rst (pins.to ∷ []) rest) [
                          | inl third ↦ inr (inr (inl (sym third)))
                          | inr last ↦
                              elim (member_cases x pins.to [] last) [
                                | inl fourth ↦ inr (inr (inr (bank_drives_rails x (subst (λ z. Member z (pair_names outs)) fourth pins.drives))))
                                | inr none ↦ elim none [ ]
                              ]
                        ]
                  ]
            ]

        of_ack : Member c are.acks → Member x (input_names c) → Member x driven
        of_ack m reads =
            let listed = subst (Member (input_names c)) are.ack_inputs (Member-map input_names c m) in
            let (pair, in_outs, same) = member_of_map pair_list outs (input_names c) listed in
            bank_drives_rails x (Member-flat_map pair_list pair x in_outs (subst (Member x) (sym same) reads))

        of_tree : Member c are.tree → Member x (input_names c) → Member x driven
        of_tree m reads =
            let (k, at) = place_of_member are.tree c m in
            let (before, after, whole) = divided_at are.tree k c at in
            let known = All-member (Contains (map output_name (are.acks ++ before))) (input_names c) (are.tree_reads before after c whole) x reads in
            let (d, in_front, same) = member_of_map output_name (are.acks ++ before) x (Member-from_Contains (map output_name (are.acks ++ before)) x known) in
            let inside : Member d others = elim (Member-append_cases d are.acks before in_front) [
              | inl ack ↦ Member-append_left d are.tree ack
              | inr earlier ↦ Member-append_right are.acks d (subst (Member d) (sym whole) (Member-append_left d (c ∷ after) earlier))
            ] in
            subst (λ z. Member z driven) same (Member-map output_name d (other_inside d inside))

        of_other : Member c are.acks ⊎ Member c are.tree → Member x driven
        of_other which =
            elim (pin_cases c x (bank_all_pins c in_cells) in_pins) [
              | inl reads ↦ elim which [ inl ack ↦ of_ack ack reads | inr tree ↦ of_tree tree reads ]
              | inr drives ↦ subst (λ z. Member z driven) drives (Member-map output_name c in_cells)
            ]

-- what stands at the pins of a stage: what it reads, and what it drives
pub stage_pin_cases : (network : Network) (ins : List NamePair) (prefix : List ℕ) (stage : StageParts) → AreStageParts network ins prefix stage → (x : List ℕ) (c : PartCell) → Member c stage.cells → Member x c.pins → Member x (names_known ins stage.cells)
stage_pin_cases network ins prefix stage are x c in_cells in_pins =
    elim (pin_cases c x (All-member HasAllPins stage.cells are.all_pins c in_cells) in_pins) [
      | inl reads ↦
          let (k, at) = place_of_member stage.cells c in_cells in
          let (before, after, whole) = divided_at stage.cells k c at in
          let known = All-member (Contains (names_known ins before)) (input_names c) (are.reads_known before after c whole) x reads in
          elim (Member-append_cases x (pair_names ins) (map output_name before) (Member-from_Contains (names_known ins before) x known)) [
            | inl rail ↦ Member-append_left x (map output_name stage.cells) rail
            | inr made ↦
                let (d, in_before, same) = member_of_map output_name before x made in
                let inside = subst (Member d) (sym whole) (Member-append_left d (c ∷ after) in_before) in
                Member-append_right (pair_names ins) x (subst (λ z. Member z (map output_name stage.cells)) same (Member-map output_name d inside))
          ]
      | inr drives ↦ Member-append_right (pair_names ins) x (subst (λ z. Member z (map output_name stage.cells)) drives (Member-map output_name c in_cells))
    ]
