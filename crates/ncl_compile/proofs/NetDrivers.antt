-- What the nets of a compiled netlist are called: each has the name of a port, or of what a cell drives. So all names are
-- plain, and no cell has the name of a net.
use Rattle.ncl_compile.proofs.Terms.{All, All-from_members, All-member, AreModels, BankParts, CanBeCompiled, Cell, Contains, Contains-from_Member, HasAllPins, IsNetlist, IsPartName, IsPlain, IsPutTogether, List, MOST_BITS, Member, Member-append_cases, Member-append_right, Member-from_Contains, Member-map, Model, NamePair, PartCell, Parts, Port, Some, StageParts, [], answer_width, ap, arith, at_of_map, bank_prefix, cell_of, codes, cond_both, driver_of_net, flat_map, get_or, get_or_from_slice_get, inl, inner_pair, inner_pairs, input_pairs, inr, is_letter, length, map, member_at, member_cases, member_of_flat_map, member_of_map, net_of_port, netlist_of, nets_of, numbered, output_name, output_pairs, pair_names, pairs_driven, place_of_member, port_names, port_pair, range_with_len, refl, root_name, slice_get, slice_get_within, slice_index, stage_prefix, subst, sym, true, width_of, widths_of, ℕ, ◌++◌, ◌<◌, ◌==◌, ◌∙◌, ◌∷◌, ◌≡◌, ◌≤◌, ◌⊎◌}
use Rattle.ncl_compile.proofs.NameLaws.{same_numbered, name_of_pairs}
use Rattle.ncl_compile.proofs.CallLaws.{first_of, root_first, port_first, driven_first}
use Rattle.ncl_compile.proofs.BankWidths.{width_bounds, width_first, model_of_stage}
use Rattle.ncl_compile.proofs.NumberedNames.{net_number, name_of_number, output_among}
use Rattle.ncl_compile.proofs.NumberedPorts.{names_in, names_out, names_of_ports_for}
use Rattle.ncl_compile.proofs.PartPins.{all_pins}
use Rattle.ncl_compile.proofs.BankNames.{bank_output_cases}
use Rattle.ncl_compile.proofs.PlainNames.{part_plain, root_plain, inner_plain, port_plain}

-- a cell is one of those of a piece, a bank or a stage, of which there are fewer than a thousand
pub record OfPiece {X : Type 0} (cells : X → List PartCell) (pieces : List X) (c : PartCell) : Type 0 where
  pub k : ℕ
  pub piece : X
  pub at : slice_get pieces k ≡ Some piece
  pub inside : Member c (cells piece)
  pub below : k < 999

piece_of : {X : Type 0} (cells : X → List PartCell) (pieces : List X) → length pieces ≤ 999 → (c : PartCell) → Member c (flat_map cells pieces) → OfPiece cells pieces c
piece_of cells pieces few c m =
    let (k, piece, at, inside) = member_of_flat_map cells pieces c m in
    let within = slice_get_within pieces k piece at in
    record { k = k; piece = piece; at = at; inside = inside; below = omega (arith, within, few) }

-- cells of pieces at one place are of one piece
inside_of : {X : Type 0} (cells : X → List PartCell) (pieces : List X) (c d : PartCell) (of_c : OfPiece cells pieces c) (of_d : OfPiece cells pieces d) → of_d.k ≡ of_c.k → Member d (cells of_c.piece)
inside_of cells pieces c d of_c of_d places =
    let moved : slice_get pieces of_c.k ≡ Some of_d.piece = subst (λ k. slice_get pieces k ≡ Some of_d.piece) places of_d.at in
    let at = of_c.at in
    let one : of_d.piece ≡ of_c.piece = cc in
    subst (λ piece. Member d (cells piece)) one of_d.inside

module _ (models : List Model) (are : AreModels models) (small : CanBeCompiled models) (parts : Parts) (put : IsPutTogether models parts) where
  -- a cell is of a bank, or of a stage
  abbrev pub OfBank : PartCell → Type 0
  OfBank = OfPiece (λ (bank : BankParts). bank.cells) put.banks

  abbrev pub OfStage : PartCell → Type 0
  OfStage = OfPiece (λ (stage : StageParts). stage.cells) put.stages

  pub bank_or_stage : (c : PartCell) → Member c parts.cells → OfBank c ⊎ OfStage c
  bank_or_stage c m =
      let few = small.few in
      let banks = put.are_banks.as_many in
      let stages = put.are_stages.as_many in
      elim (Member-append_cases c (flat_map (λ (bank : BankParts). bank.cells) put.banks) (flat_map (λ (stage : StageParts). stage.cells) put.stages) (subst (Member c) put.cells m)) [
        | inl of_banks ↦ inl (piece_of (λ (bank : BankParts). bank.cells) put.banks (omega (arith, banks, few)) c of_banks)
        | inr of_stages ↦ inr (piece_of (λ (stage : StageParts). stage.cells) put.stages (omega (arith, stages, few)) c of_stages)
      ]

  abbrev pub outs_of : ℕ → List NamePair
  outs_of k = pairs_driven (length models) k (slice_index (widths_of models) k)

  -- what a cell of a bank is called and drives
  pub bank_name : (c : PartCell) (b : OfBank c) → IsPartName (bank_prefix b.k) c.name
  bank_name c b = All-member (λ (cell : PartCell). IsPartName (bank_prefix b.k) cell.name) b.piece.cells (put.are_banks.each b.k b.piece b.at).cell_names c b.inside

  pub bank_drives : (c : PartCell) (b : OfBank c) → Member (output_name c) (pair_names (outs_of b.k)) ⊎ ((output_name c ≡ root_name b.k) ⊎ IsPartName (bank_prefix b.k) (output_name c))
  bank_drives c b = bank_output_cases _ _ _ _ _ _ b.piece (put.are_banks.each b.k b.piece b.at) (output_name c) (Member-map output_name c b.inside)

  -- and a cell of a stage
  pub stage_name : (c : PartCell) (s : OfStage c) → IsPartName (stage_prefix s.k) c.name
  stage_name c s =
      let (model, at_model) = model_of_stage models are small put.stages put.are_stages s.k s.piece s.at in
      All-member (λ (cell : PartCell). IsPartName (stage_prefix s.k) cell.name) s.piece.cells (put.are_stages.each s.k model s.piece at_model s.at).are.cell_names c s.inside

  pub stage_drives : (c : PartCell) (s : OfStage c) → IsPartName (stage_prefix s.k) (output_name c)
  stage_drives c s =
      let (model, at_model) = model_of_stage models are small put.stages put.are_stages s.k s.piece s.at in
      All-member (λ (cell : PartCell). IsPartName (stage_prefix s.k) (output_name cell)) s.piece.cells (put.are_stages.each s.k model s.piece at_model s.at).are.net_names c s.inside

  pub widths_few : (k : ℕ) → k ≤ length models → slice_index (widths_of models) k ≤ MOST_BITS
  widths_few k within = (width_bounds models are small k within).1

  -- rails are plain
  ports_plain : (letter width : ℕ) → is_letter letter ≡ true → width ≤ MOST_BITS → (x : List ℕ) → Member x (pair_names (map (port_pair (letter ∷ [])) (range_with_len 1 width))) → IsPlain x
  ports_plain letter width is few x m =
      let (i, r, from, to, same) = name_of_pairs (port_pair (letter ∷ [])) 1 width x m in
      subst IsPlain same (port_plain letter i r is (omega (arith, to, few)))

  driven_plain : (k : ℕ) → k ≤ length models → (x : List ℕ) → Member x (pair_names (outs_of k)) → IsPlain x
  driven_plain k within =
      cond_both (k == length models) (output_pairs (slice_index (widths_of models) k)) (inner_pairs k (slice_index (widths_of models) k)) (λ pairs. (x : List ℕ) → Member x (pair_names pairs) → IsPlain x)
      (λ is x m. ports_plain 111 (slice_index (widths_of models) k) refl (widths_few k within) x m)
      (λ is x m. let (i, r, from, to, same) = name_of_pairs (inner_pair k) 0 (slice_index (widths_of models) k) x m in subst IsPlain same (inner_plain k i r))

  -- what a cell drives has a plain name, and so has the cell
  output_plain : (c : PartCell) → Member c parts.cells → IsPlain (output_name c)
  output_plain c m =
      elim (bank_or_stage c m) [
        | inl b ↦
            let within = slice_get_within put.banks b.k b.piece b.at in
            let many = put.are_banks.as_many in
            elim (bank_drives c b) [
              | inl rail ↦ driven_plain b.k (omega (arith, within, many)) (output_name c) rail
              | inr (inl root) ↦ subst IsPlain (sym root) (root_plain b.k)
              | inr (inr own) ↦ part_plain 98 b.k (output_name c) refl own
            ]
        | inr s ↦ part_plain 115 s.k (output_name c) refl (stage_drives c s)
      ]

  name_plain : (c : PartCell) → Member c parts.cells → IsPlain c.name
  name_plain c m =
      elim (bank_or_stage c m) [
        | inl b ↦ part_plain 98 b.k c.name refl (bank_name c b)
        | inr s ↦ part_plain 115 s.k c.name refl (stage_name c s)
      ]

  pub plain_cells : All (λ (cell : Cell). IsPlain cell.name) (map (cell_of (nets_of parts)) parts.cells)
  plain_cells = All-from_members (λ (cell : Cell). IsPlain cell.name) (map (cell_of (nets_of parts)) parts.cells) (λ cell m.
      let (c, in_cells, same) = member_of_map (cell_of (nets_of parts)) parts.cells cell m in
      subst (λ (z : Cell). IsPlain z.name) same (name_plain c in_cells))

  ports_are : port_names parts ≡ names_in (width_of models) ++ names_out (answer_width models)
  ports_are = ap (map (λ (port : Port). port.name)) put.ports ∙ names_of_ports_for (width_of models) (answer_width models)

  pub in_few : width_of models ≤ MOST_BITS
  in_few = let first = width_first models are.some in let few = widths_few 0 (omega arith) in omega (arith, first, few)

  -- what is said of ports is said of rails of inputs and outputs, `ki`, the reset and `ko`
  pub of_port : (P : List ℕ → Type 0) → ((x : List ℕ) → Member x (pair_names (input_pairs (width_of models))) → P x) → P (codes "ki") → P (codes "rst") → ((x : List ℕ) → Member x (pair_names (output_pairs (answer_width models))) → P x) → P (codes "ko") → (x : List ℕ) → Member x (port_names parts) → P x
  of_port P ins ki rst outs ko x m =
      elim (Member-append_cases x (names_in (width_of models)) (names_out (answer_width models)) (subst (Member x) ports_are m)) [
        | inl is_in ↦
            elim (Member-append_cases x (pair_names (input_pairs (width_of models))) (codes "ki" ∷ codes "rst" ∷ []) is_in) [
              | inl rail ↦ ins x rail
              | inr other ↦
                  elim (member_cases x (codes "ki") (codes "rst" ∷ []) other) [
                    | inl same ↦ subst P same ki
                    | inr last ↦ elim (member_cases x (codes "rst") [] last) [ inl same ↦ subst P same rst | inr none ↦ elim none [ ] ]
                  ]
            ]
        | inr is_out ↦
            elim (Member-append_cases x (pair_names (output_pairs (answer_width models))) (codes "ko" ∷ []) is_out) [
              | inl rail ↦ outs x rail
              | inr last ↦ elim (member_cases x (codes "ko") [] last) [ inl same ↦ subst P same ko | inr none ↦ elim none [ ] ]
            ]
      ]

  pub plain_ports : (x : List ℕ) → Member x (port_names parts) → IsPlain x
  plain_ports = of_port IsPlain (ports_plain 105 (width_of models) refl in_few) refl refl (ports_plain 111 (answer_width models) refl (widths_few (length models) (omega arith))) refl

  module _ (is : IsNetlist (netlist_of parts)) where
    -- a net has the name of a port, or of what a cell drives
    pub net_sort : (x : List ℕ) → Member x (nets_of parts) → Member x (port_names parts) ⊎ ((c : PartCell) × Member c parts.cells × (output_name c ≡ x))
    net_sort x m =
        let (net, at) = place_of_member (nets_of parts) x m in
        elim (driver_of_net (netlist_of parts) is net (slice_get_within (nets_of parts) net x at)) [
          | inl (port, at_port, input) ↦
              let named = net_of_port (netlist_of parts) is net port at_port in
              let same : port.name ≡ x = cc in
              inl (subst (λ z. Member z (port_names parts)) same (Member-map (λ (port : Port). port.name) port (member_at parts.ports net port at_port)))
          | inr (k, cell, at_cell, out) ↦
              let (c, at_c, is_cell) = at_of_map (cell_of (nets_of parts)) parts.cells k cell at_cell in
              let in_cells = member_at parts.cells k c at_c in
              let occurs = Member-append_right (port_names parts) (output_name c) (output_among parts c in_cells (All-member HasAllPins parts.cells (all_pins models are small parts put) c in_cells)) in
              let number : net_number parts (output_name c) ≡ net = ap (λ (z : Cell). z.out.0) is_cell ∙ out in
              inr (c, in_cells, sym (name_of_number parts (output_name c) occurs) ∙ ap (λ z. get_or (nets_of parts) z []) number ∙ get_or_from_slice_get (nets_of parts) net x [] at)
        ]

    pub plain_nets : All IsPlain (nets_of parts)
    plain_nets = All-from_members IsPlain (nets_of parts) (λ x m.
        elim (net_sort x m) [
          | inl port ↦ plain_ports x port
          | inr (c, in_cells, same) ↦ subst IsPlain same (output_plain c in_cells)
        ])

    -- a name that begins with `b` or `s` is that of no port
    no_port : (letter : ℕ) → (letter ≡ 105 → ⊥) → (letter ≡ 107 → ⊥) → (letter ≡ 114 → ⊥) → (letter ≡ 111 → ⊥) → (x : List ℕ) → first_of x ≡ letter → Member x (port_names parts) → ⊥
    no_port letter no_i no_k no_r no_o x first m =
        of_port (λ y. first_of y ≡ letter → ⊥)
        (λ y rail same. no_i (sym same ∙ port_first 105 (width_of models) y rail)) (λ same. no_k (sym same)) (λ same. no_r (sym same))
        (λ y rail same. no_o (sym same ∙ port_first 111 (answer_width models) y rail)) (λ same. no_k (sym same)) x m first

    part_first : (letter number : ℕ) (name : List ℕ) → IsPartName (numbered letter number) name → first_of name ≡ letter
    part_first letter number name named = ap first_of named.is

    same_part : (letter j k : ℕ) (name : List ℕ) → j < 999 → k < 999 → IsPartName (numbered letter j) name → IsPartName (numbered letter k) name → j ≡ k
    same_part letter j k name j_below k_below of_j of_k = same_numbered letter j k of_j.rest of_k.rest j_below k_below (sym of_j.is ∙ of_k.is)

    -- what a cell of a bank drives begins with `w`, `o`, `k`, `a` or `b`
    bank_first : (d : PartCell) (b : OfBank d) (letter : ℕ) → (letter ≡ 119 → ⊥) → (letter ≡ 111 → ⊥) → (letter ≡ 107 → ⊥) → (letter ≡ 97 → ⊥) → first_of (output_name d) ≡ letter → IsPartName (bank_prefix b.k) (output_name d)
    bank_first d b letter no_w no_o no_k no_a first =
        elim (bank_drives d b) [
          | inl rail ↦
              elim (driven_first (length models) b.k (slice_index (widths_of models) b.k) (output_name d) rail) [
                | inl w ↦ absurd (no_w (sym first ∙ w))
                | inr o ↦ absurd (no_o (sym first ∙ o))
              ]
          | inr (inl root) ↦
              elim (root_first b.k) [
                | inl k ↦ absurd (no_k (sym first ∙ ap first_of root ∙ k))
                | inr a ↦ absurd (no_a (sym first ∙ ap first_of root ∙ a))
              ]
          | inr (inr own) ↦ own
        ]

    cell_no_net : (c : PartCell) → Member c parts.cells → (d : PartCell) → Member d parts.cells → output_name d ≡ c.name → ⊥
    cell_no_net c in_c d in_d same = by (bank_or_stage c in_c) (bank_or_stage d in_d)
      where
        by : OfBank c ⊎ OfStage c → OfBank d ⊎ OfStage d → ⊥
        by (inl b) (inl e) =
            let first = ap first_of same ∙ part_first 98 b.k c.name (bank_name c b) in
            let own = bank_first d e 98 (λ z. absurd (omega (arith, z))) (λ z. absurd (omega (arith, z))) (λ z. absurd (omega (arith, z))) (λ z. absurd (omega (arith, z))) first in
            let places : e.k ≡ b.k = same_part 98 e.k b.k c.name e.below b.below (subst (IsPartName (bank_prefix e.k)) same own) (bank_name c b) in
            let inside = inside_of (λ (bank : BankParts). bank.cells) put.banks c d b e places in
            (put.are_banks.each b.k b.piece b.at).no_cell_is_net c d (Contains-from_Member c b.inside) (Contains-from_Member d inside) (sym same)
        by (inl b) (inr s) =
            let clash : ◌≡◌ {A = ℕ} 115 98 = sym (part_first 115 s.k (output_name d) (stage_drives d s)) ∙ ap first_of same ∙ part_first 98 b.k c.name (bank_name c b) in
            omega (arith, clash)
        by (inr t) (inl e) =
            let first = ap first_of same ∙ part_first 115 t.k c.name (stage_name c t) in
            let own = bank_first d e 115 (λ z. absurd (omega (arith, z))) (λ z. absurd (omega (arith, z))) (λ z. absurd (omega (arith, z))) (λ z. absurd (omega (arith, z))) first in
            let clash : ◌≡◌ {A = ℕ} 98 115 = sym (part_first 98 e.k (output_name d) own) ∙ first in
            omega (arith, clash)
        by (inr t) (inr s) =
            let places : s.k ≡ t.k = same_part 115 s.k t.k c.name s.below t.below (subst (IsPartName (stage_prefix s.k)) same (stage_drives d s)) (stage_name c t) in
            let inside = inside_of (λ (stage : StageParts). stage.cells) put.stages c d t s places in
            let (model, at_model) = model_of_stage models are small put.stages put.are_stages t.k t.piece t.at in
            (put.are_stages.each t.k model t.piece at_model t.at).are.no_cell_is_net c d (Contains-from_Member c t.inside) (Contains-from_Member d inside) (sym same)

    -- no cell has the name of a net
    pub apart : (cell : Cell) → Contains (map (cell_of (nets_of parts)) parts.cells) cell → Contains (nets_of parts) cell.name → ⊥
    apart cell met net =
        let (c, in_cells, same) = member_of_map (cell_of (nets_of parts)) parts.cells cell (Member-from_Contains (map (cell_of (nets_of parts)) parts.cells) cell met) in
        let name : c.name ≡ cell.name = ap (λ (z : Cell). z.name) same in
        let named = subst (λ z. Member z (nets_of parts)) (sym name) (Member-from_Contains (nets_of parts) cell.name net) in
        elim (net_sort c.name named) [
          | inl port ↦
              elim (bank_or_stage c in_cells) [
                | inl b ↦ no_port 98 (λ z. absurd (omega (arith, z))) (λ z. absurd (omega (arith, z))) (λ z. absurd (omega (arith, z))) (λ z. absurd (omega (arith, z))) c.name (part_first 98 b.k c.name (bank_name c b)) port
                | inr s ↦ no_port 115 (λ z. absurd (omega (arith, z))) (λ z. absurd (omega (arith, z))) (λ z. absurd (omega (arith, z))) (λ z. absurd (omega (arith, z))) c.name (part_first 115 s.k c.name (stage_name c s)) port
              ]
          | inr (d, in_d, drives) ↦ cell_no_net c in_cells d in_d drives
        ]
