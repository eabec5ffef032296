-- Parts that models are put together of break no rule of netlists.
use Rattle.ncl_compile.proofs.Terms.{All-member, AllPairs-append, AreModels, BankParts, Bool, CanBeCompiled, Contains, IsFaultless, IsPartName, IsPutTogether, IsStageOfModel, List, Member, Member-append_cases, Member-append_left, Member-append_right, Member-flat_map, Member-from_Contains, Member-map, Model, PartCell, Parts, Port, Some, StageParts, [], answer_width, ap, arith, bank_prefix, cell_names, codes, cond-false, cond-true, cond_both, drivers_at, eq-eqb, eqb-false, false, flat_map, here, inl, inner_pairs, input_pairs, inr, length, map, map-append, member_at, member_cases, member_of_flat_map, member_of_map, names_known, ne_eqb, nets_of, output_name, output_pairs, outputs_of, pair_names, pairs_driven, pairs_read, port_names, port_pair, ports_named, refl, request_name, root_name, slice_get, slice_get-some, slice_get_within, slice_index, stage_prefix, subst, suc, sym, there, true, true≢false, width_of, widths_of, zero, ℕ, ◌++◌, ◌<◌, ◌==◌, ◌∙◌, ◌∷◌, ◌≡◌, ◌≢◌, ◌≤◌, ◌⊎◌}
use Rattle.ncl_compile.proofs.NameLaws.{AreApart, apart_from_differ, differ_from_apart, port_begins, name_of_pairs}
use Rattle.ncl_compile.proofs.CallLaws.{first_of}
use Rattle.ncl_compile.proofs.BankWidths.{width_before, model_of_stage, stage_of_model}
use Rattle.ncl_compile.proofs.NumberedRows.{BankFact}
use Rattle.ncl_compile.proofs.NumberedPorts.{names_in, names_out, names_of_ports_for}
use Rattle.ncl_compile.proofs.PartsAssembled.{bank_fact}
use Rattle.ncl_compile.proofs.NameOwners.{owner_of, input_like, IsBankName, bank_name_owner, bank_part_owner, stage_part_owner, bank_name_first, bank_name_no_input, stage_name_no_input, owned_apart}
use Rattle.ncl_compile.proofs.CellCount.{few_cells}
use Rattle.ncl_compile.proofs.PartPins.{ports_differ}
use Rattle.ncl_compile.proofs.BankNames.{bank_output_cases, bank_drives_root, bank_drives_rails, bank_pin_cases, stage_pin_cases}
use Rattle.ncl_compile.proofs.DrivenOnce.{IsInputPort, names_said, driven_once}

-- what a function gives at the elements of parts
map-flat_map : {X Y Z : Type 0} (f : Y → Z) (parts_of : X → List Y) (xs : List X) → map f (flat_map parts_of xs) ≡ flat_map (λ x. map f (parts_of x)) xs
map-flat_map f parts_of [] = refl
map-flat_map f parts_of (x ∷ xs) = map-append f (parts_of x) (flat_map parts_of xs) ∙ ap (λ l. map f (parts_of x) ++ l) (map-flat_map f parts_of xs)

-- the names of input ports look like those of inputs
names_in-like : (width : ℕ) (x : List ℕ) → Member x (names_in width) → input_like x ≡ 1
names_in-like width x m =
    elim (Member-append_cases x (pair_names (input_pairs width)) (codes "ki" ∷ codes "rst" ∷ []) m) [
      | inl rail ↦
          let (i, r, from, to, same) = name_of_pairs (port_pair (codes "i")) 1 width x rail in
          ap input_like (sym same ∙ (port_begins 105 i r).is)
      | inr more ↦
          elim (member_cases x (codes "ki") (codes "rst" ∷ []) more) [
            | inl is_ki ↦ ap input_like (sym is_ki)
            | inr rest ↦ elim (member_cases x (codes "rst") [] rest) [ inl is_rst ↦ ap input_like (sym is_rst) | inr none ↦ elim none [ ] ]
          ]
    ]

abbrev cells_of_bank : BankParts → List PartCell
cells_of_bank bank = bank.cells

abbrev cells_of_stage : StageParts → List PartCell
cells_of_stage stage = stage.cells

abbrev name_of_cell : PartCell → List ℕ
name_of_cell cell = cell.name

module _ (models : List Model) (are : AreModels models) (small : CanBeCompiled models) (parts : Parts) (put : IsPutTogether models parts) where
  abbrev stages : List StageParts
  stages = put.stages

  abbrev banks : List BankParts
  banks = put.banks

  abbrev last : ℕ
  last = length models

  abbrev width_at : ℕ → ℕ
  width_at k = slice_index (widths_of models) k

  -- banks and stages by their numbers
  few_banks : last < 999
  few_banks = let few = small.few in omega (arith, few)

  bank_within : (k : ℕ) (bank : BankParts) → slice_get banks k ≡ Some bank → k ≤ last
  bank_within k bank at =
      let within = slice_get_within banks k bank at in
      let many = put.are_banks.as_many in
      omega (arith, within, many)

  bank_at : (k : ℕ) → k ≤ last → (bank : BankParts) × (slice_get banks k ≡ Some bank)
  bank_at k within = let many = put.are_banks.as_many in slice_get-some banks k (omega (arith, within, many))

  fact_of : (k : ℕ) (bank : BankParts) → slice_get banks k ≡ Some bank → BankFact models stages k bank
  fact_of = bank_fact models are small parts put

  record StageAt (k : ℕ) (stage : StageParts) : Type 0 where
    model : Model
    at_model : slice_get models k ≡ Some model
    within : k < last
    is : IsStageOfModel model (inner_pairs k (length model.inputs)) (stage_prefix k) stage

  stage_at : (k : ℕ) (stage : StageParts) → slice_get stages k ≡ Some stage → StageAt k stage
  stage_at k stage at =
      let (model, at_model) = model_of_stage models are small stages put.are_stages k stage at in
      record { model = model; at_model = at_model; within = slice_get_within models k model at_model; is = put.are_stages.each k model stage at_model at }

  -- a cell is one of a bank, or one of a stage
  cell_cases : (c : PartCell) → Member c parts.cells → ((k : ℕ) × (bank : BankParts) × (slice_get banks k ≡ Some bank) × Member c bank.cells) ⊎ ((k : ℕ) × (stage : StageParts) × (slice_get stages k ≡ Some stage) × Member c stage.cells)
  cell_cases c m =
      elim (Member-append_cases c (flat_map cells_of_bank banks) (flat_map cells_of_stage stages) (subst (Member c) put.cells m)) [
        | inl in_bank ↦ inl (member_of_flat_map cells_of_bank banks c in_bank)
        | inr in_stage ↦ inr (member_of_flat_map cells_of_stage stages c in_stage)
      ]

  -- what a function gives at all cells
  at_all_cells : (f : PartCell → List ℕ) → map f parts.cells ≡ flat_map (λ (bank : BankParts). map f bank.cells) banks ++ flat_map (λ (stage : StageParts). map f stage.cells) stages
  at_all_cells f =
      ap (map f) put.cells
      ∙ map-append f (flat_map cells_of_bank banks) (flat_map cells_of_stage stages)
      ∙ (λ i. map-flat_map f cells_of_bank banks i ++ map-flat_map f cells_of_stage stages i)

  -- they differ, where those of each bank and of each stage do, say its number, and begin with `s` in stages alone
  at_cells-apart : (f : PartCell → List ℕ)
      → ((k : ℕ) (bank : BankParts) → slice_get banks k ≡ Some bank → AreApart (map f bank.cells))
      → ((k : ℕ) (bank : BankParts) → slice_get banks k ≡ Some bank → (x : List ℕ) → Member x (map f bank.cells) → (owner_of last x ≡ k) × (first_of x ≢ 115))
      → ((k : ℕ) (stage : StageParts) → slice_get stages k ≡ Some stage → AreApart (map f stage.cells))
      → ((k : ℕ) (stage : StageParts) → slice_get stages k ≡ Some stage → (x : List ℕ) → Member x (map f stage.cells) → IsPartName (stage_prefix k) x)
      → AreApart (map f parts.cells)
  at_cells-apart f banks_apart of_banks stages_apart of_stages =
      subst AreApart (sym (at_all_cells f))
      (AllPairs-append (λ x y. x ≢ y) (flat_map names_of_bank banks) (flat_map names_of_stage stages)
      (owned_apart names_of_bank (owner_of last) 0 banks
      (λ k bank at. (banks_apart k bank at, λ x m. let own = (of_banks k bank at x m).0 in omega (arith, own))))
      (owned_apart names_of_stage (owner_of last) 0 stages
      (λ k stage at. (
        stages_apart k stage at,
        λ x m.
            let own = stage_part_owner last k x (below_limit k (stage_at k stage at).within) (of_stages k stage at x m) in
            omega (arith, own),
      )))
      (λ x y in_banks in_stages same.
      let (k, bank, at, in_bank) = member_of_flat_map names_of_bank banks x in_banks in
      let (j, stage, at_stage, in_stage) = member_of_flat_map names_of_stage stages y in_stages in
      (of_banks k bank at x in_bank).1 (ap first_of same ∙ ap first_of (of_stages j stage at_stage y in_stage).is)))
    where
      names_of_bank : BankParts → List (List ℕ)
      names_of_bank bank = map f bank.cells

      names_of_stage : StageParts → List (List ℕ)
      names_of_stage stage = map f stage.cells

      below_limit : (k : ℕ) → k < last → k < 999
      below_limit k lt = omega (arith, lt, few_banks)

  -- the names that banks and stages drive
  bank_names : (k : ℕ) (bank : BankParts) → slice_get banks k ≡ Some bank → (x : List ℕ) → Member x (map output_name bank.cells) → IsBankName last k (width_at k) x
  bank_names k bank at x m =
      let fact = fact_of k bank at in
      bank_output_cases (pairs_read (width_of models) stages k) (pairs_driven last k (width_at k)) (request_name last k) (codes "rst") (root_name k) (bank_prefix k) bank fact.are x m

  stage_names : (k : ℕ) (stage : StageParts) → slice_get stages k ≡ Some stage → (x : List ℕ) → Member x (map output_name stage.cells) → IsPartName (stage_prefix k) x
  stage_names k stage at x m =
      let (c, in_cells, same) = member_of_map output_name stage.cells x m in
      subst (IsPartName (stage_prefix k)) same (All-member (λ (cell : PartCell). IsPartName (stage_prefix k) (output_name cell)) stage.cells (stage_at k stage at).is.are.net_names c in_cells)

  bank_below : (k : ℕ) (bank : BankParts) → slice_get banks k ≡ Some bank → k < 999
  bank_below k bank at = let within = bank_within k bank at in omega (arith, within, few_banks)

  outputs_of_bank : (k : ℕ) (bank : BankParts) → slice_get banks k ≡ Some bank → (x : List ℕ) → Member x (map output_name bank.cells) → (owner_of last x ≡ k) × (first_of x ≢ 115)
  outputs_of_bank k bank at x m =
      let name = bank_names k bank at x m in
      (bank_name_owner last k (width_at k) (bank_below k bank at) x name, bank_name_first last k (width_at k) x name)

  outputs_apart : AreApart (map output_name parts.cells)
  outputs_apart =
      at_cells-apart output_name (λ k bank at. apart_from_differ (map output_name bank.cells) (fact_of k bank at).are.nets_differ) outputs_of_bank
      (λ k stage at. apart_from_differ (map output_name stage.cells) (stage_at k stage at).is.are.nets_differ) stage_names

  -- the names of cells
  cells_apart : AreApart (map name_of_cell parts.cells)
  cells_apart =
      at_cells-apart name_of_cell (λ k bank at. apart_from_differ (map name_of_cell bank.cells) (fact_of k bank at).are.cells_differ) cells_of_bank_named
      (λ k stage at. apart_from_differ (map name_of_cell stage.cells) (stage_at k stage at).is.are.cells_differ) stage_cell_names
    where
      bank_cell_names : (k : ℕ) (bank : BankParts) → slice_get banks k ≡ Some bank → (x : List ℕ) → Member x (map name_of_cell bank.cells) → IsPartName (bank_prefix k) x
      bank_cell_names k bank at x m =
          let (c, in_cells, same) = member_of_map name_of_cell bank.cells x m in
          subst (IsPartName (bank_prefix k)) same (All-member (λ (cell : PartCell). IsPartName (bank_prefix k) cell.name) bank.cells (fact_of k bank at).are.cell_names c in_cells)

      cells_of_bank_named : (k : ℕ) (bank : BankParts) → slice_get banks k ≡ Some bank → (x : List ℕ) → Member x (map name_of_cell bank.cells) → (owner_of last x ≡ k) × (first_of x ≢ 115)
      cells_of_bank_named k bank at x m =
          let named = bank_cell_names k bank at x m in
          (bank_part_owner last k x (bank_below k bank at) named, λ same. let clash : ◌≡◌ {A = ℕ} 98 115 = ap first_of (sym named.is) ∙ same in absurd (omega (arith, clash)))

      stage_cell_names : (k : ℕ) (stage : StageParts) → slice_get stages k ≡ Some stage → (x : List ℕ) → Member x (map name_of_cell stage.cells) → IsPartName (stage_prefix k) x
      stage_cell_names k stage at x m =
          let (c, in_cells, same) = member_of_map name_of_cell stage.cells x m in
          subst (IsPartName (stage_prefix k)) same (All-member (λ (cell : PartCell). IsPartName (stage_prefix k) cell.name) stage.cells (stage_at k stage at).is.are.cell_names c in_cells)

  -- what is driven by a cell of a bank or of a stage is driven
  driven_by_bank : (k : ℕ) (bank : BankParts) → slice_get banks k ≡ Some bank → (x : List ℕ) → Member x (map output_name bank.cells) → Member x (map output_name parts.cells)
  driven_by_bank k bank at x m =
      let (c, in_cells, same) = member_of_map output_name bank.cells x m in
      let inside = subst (Member c) (sym put.cells) (Member-append_left c (flat_map cells_of_stage stages) (Member-flat_map cells_of_bank bank c (member_at banks k bank at) in_cells)) in
      subst (λ z. Member z (map output_name parts.cells)) same (Member-map output_name c inside)

  driven_by_stage : (k : ℕ) (stage : StageParts) → slice_get stages k ≡ Some stage → (x : List ℕ) → Member x (map output_name stage.cells) → Member x (map output_name parts.cells)
  driven_by_stage k stage at x m =
      let (c, in_cells, same) = member_of_map output_name stage.cells x m in
      let inside = subst (Member c) (sym put.cells) (Member-append_right (flat_map cells_of_bank banks) c (Member-flat_map cells_of_stage stage c (member_at stages k stage at) in_cells)) in
      subst (λ z. Member z (map output_name parts.cells)) same (Member-map output_name c inside)

  -- all rails and roots of banks are driven
  rails_driven : (k : ℕ) → k ≤ last → (x : List ℕ) → Member x (pair_names (pairs_driven last k (width_at k))) → Member x (map output_name parts.cells)
  rails_driven k within x m =
      let (bank, at) = bank_at k within in
      let fact = fact_of k bank at in
      driven_by_bank k bank at x
      (bank_drives_rails (pairs_read (width_of models) stages k) (pairs_driven last k (width_at k)) (request_name last k) (codes "rst") (root_name k) (bank_prefix k) bank fact.are (width_at k) fact.long_ins fact.long_outs x m)

  root_driven : (k : ℕ) → k ≤ last → Member (root_name k) (map output_name parts.cells)
  root_driven k within =
      let (bank, at) = bank_at k within in
      let fact = fact_of k bank at in
      driven_by_bank k bank at (root_name k)
      (bank_drives_root (pairs_read (width_of models) stages k) (pairs_driven last k (width_at k)) (request_name last k) (codes "rst") (root_name k) (bank_prefix k) bank fact.are)

  inner_driven : (k : ℕ) → k < last → (x : List ℕ) → Member x (pair_names (inner_pairs k (width_at k))) → Member x (map output_name parts.cells)
  inner_driven k lt x m =
      let other = ne_eqb k last (λ e. absurd (omega (arith, lt, e))) in
      let driven : pairs_driven last k (width_at k) ≡ inner_pairs k (width_at k) = cond-false (k == last) (output_pairs (width_at k)) (inner_pairs k (width_at k)) other in
      rails_driven k (omega (arith, lt)) x (subst (λ l. Member x (pair_names l)) (sym driven) m)

  outputs_driven : (x : List ℕ) → Member x (pair_names (output_pairs (answer_width models))) → Member x (map output_name parts.cells)
  outputs_driven x m =
      let is = eq-eqb last last refl in
      let driven : pairs_driven last last (width_at last) ≡ output_pairs (width_at last) = cond-true (last == last) (output_pairs (width_at last)) (inner_pairs last (width_at last)) is in
      rails_driven last (omega arith) x (subst (λ l. Member x (pair_names l)) (sym driven) m)

  -- the input ports are those with these names
  is_input : (x : List ℕ) → Member x (names_in (width_of models)) → IsInputPort parts x
  is_input x m = record {
    port = record { name = x; output = false };
    among = subst (Member (record { name = x; output = false })) (sym put.ports) (Member-append_left (record { name = x; output = false }) (ports_named true (names_out (answer_width models))) (Member-map port_of x m));
    input = refl;
    is = refl;
  }
    where
      port_of : List ℕ → Port
      port_of name = record { name = name; output = false }

  input_is : (x : List ℕ) → IsInputPort parts x → input_like x ≡ 1
  input_is x input =
      elim (Member-append_cases input.port (ports_named false (names_in (width_of models))) (ports_named true (names_out (answer_width models))) (subst (Member input.port) put.ports input.among)) [
        | inl first ↦
            let (name, in_names, same) = member_of_map (port_of false) (names_in (width_of models)) input.port first in
            ap input_like (sym (ap (λ (port : Port). port.name) same ∙ input.is)) ∙ names_in-like (width_of models) name in_names
        | inr second ↦
            let (name, in_names, same) = member_of_map (port_of true) (names_out (answer_width models)) input.port second in
            absurd (true≢false (ap (λ (port : Port). port.output) same ∙ input.input))
      ]
    where
      port_of : Bool → List ℕ → Port
      port_of output name = record { name = name; output = output }

  -- no cell drives one
  no_input : (x : List ℕ) → Member x (map output_name parts.cells) → IsInputPort parts x → ⊥
  no_input x m input =
      let (c, in_cells, same) = member_of_map output_name parts.cells x m in
      let unlike : input_like x ≡ 0 =
      elim (cell_cases c in_cells) [
        | inl (k, bank, at, in_bank) ↦ bank_name_no_input last k (width_at k) x (bank_names k bank at x (subst (λ z. Member z (map output_name bank.cells)) same (Member-map output_name c in_bank)))
        | inr (k, stage, at, in_stage) ↦ stage_name_no_input k x (stage_names k stage at x (subst (λ z. Member z (map output_name stage.cells)) same (Member-map output_name c in_stage)))
      ] in
      let like = input_is x input in
      absurd (omega (arith, unlike, like))

  abbrev IsDriven : List ℕ → Type 0
  IsDriven x = IsInputPort parts x ⊎ Member x (map output_name parts.cells)

  -- what a stage knows is driven
  known_driven : (k : ℕ) (stage : StageParts) → slice_get stages k ≡ Some stage → (x : List ℕ) → ((model : Model) → slice_get models k ≡ Some model → Member x (names_known (inner_pairs k (length model.inputs)) stage.cells)) → Member x (map output_name parts.cells)
  known_driven k stage at x known =
      let here = stage_at k stage at in
      elim (Member-append_cases x (pair_names (inner_pairs k (length here.model.inputs))) (map output_name stage.cells) (known here.model here.at_model)) [
        | inl rail ↦ inner_driven k here.within x (subst (λ w. Member x (pair_names (inner_pairs k w))) (sym (width_before models k here.model here.at_model)) rail)
        | inr made ↦ driven_by_stage k stage at x made
      ]

  -- so is what a bank reads, and what requests it
  read_driven : (k : ℕ) → k ≤ last → (x : List ℕ) → Member x (pair_names (pairs_read (width_of models) stages k)) → IsDriven x
  read_driven zero within x m = inl (is_input x (Member-append_left x (codes "ki" ∷ codes "rst" ∷ []) m))
  read_driven (suc k) within x m =
      let (stage, at) = stage_of_model models are small stages put.are_stages k (omega arith) in
      let here = stage_at k stage at in
      let in_outputs : Member x (pair_names stage.outputs) = subst (λ o. Member x (pair_names (outputs_of o))) at m in
      inr (known_driven k stage at x (λ model at_model.
      let is = put.are_stages.each k model stage at_model at in
      let known = names_known (inner_pairs k (length model.inputs)) stage.cells in
      Member-from_Contains known x (All-member (Contains known) (pair_names stage.outputs) is.are.outputs_known x in_outputs)))

  request_driven : (k : ℕ) → k ≤ last → IsDriven (request_name last k)
  request_driven k within =
      cond_both (k == last) (codes "ki") (root_name (suc k)) IsDriven
      (λ is. inl (is_input (codes "ki") (Member-append_right (pair_names (input_pairs (width_of models))) (codes "ki") here)))
      (λ is. inr (root_driven (suc k) (omega (arith, within, eqb-false k last is))))

  reset_driven : IsDriven (codes "rst")
  reset_driven = inl (is_input (codes "rst") (Member-append_right (pair_names (input_pairs (width_of models))) (codes "rst") (there here)))

  -- each name at a pin is driven
  pin_driven : (x : List ℕ) (c : PartCell) → Member c parts.cells → Member x c.pins → IsDriven x
  pin_driven x c in_cells in_pins =
      elim (cell_cases c in_cells) [
        | inl (k, bank, at, in_bank) ↦
            let fact = fact_of k bank at in
            let within = bank_within k bank at in
            elim (bank_pin_cases (pairs_read (width_of models) stages k) (pairs_driven last k (width_at k)) (request_name last k) (codes "rst") (root_name k) (bank_prefix k) bank fact.are (width_at k) fact.long_ins fact.long_outs x c in_bank in_pins) [
              | inl reads ↦ read_driven k within x reads
              | inr more ↦
                  elim more [
                    | inl request ↦ subst IsDriven (sym request) (request_driven k within)
                    | inr rest ↦ elim rest [ inl reset ↦ subst IsDriven (sym reset) reset_driven | inr made ↦ inr (driven_by_bank k bank at x made) ]
                  ]
            ]
        | inr (k, stage, at, in_stage) ↦
            inr (known_driven k stage at x (λ model at_model.
            let is = put.are_stages.each k model stage at_model at in
            stage_pin_cases is.network (inner_pairs k (length model.inputs)) (stage_prefix k) stage is.are x c in_stage in_pins))
      ]

  port_names_are : port_names parts ≡ names_in (width_of models) ++ names_out (answer_width models)
  port_names_are = ap (map (λ (port : Port). port.name)) put.ports ∙ names_of_ports_for (width_of models) (answer_width models)

  name_driven : (x : List ℕ) → Member x (names_said parts) → IsDriven x
  name_driven x m =
      elim (Member-append_cases x (port_names parts) (flat_map (λ (cell : PartCell). cell.pins) parts.cells) m) [
        | inl port ↦
            elim (Member-append_cases x (names_in (width_of models)) (names_out (answer_width models)) (subst (Member x) port_names_are port)) [
              | inl input ↦ inl (is_input x input)
              | inr output ↦
                  elim (Member-append_cases x (pair_names (output_pairs (answer_width models))) (codes "ko" ∷ []) output) [
                    | inl rail ↦ inr (outputs_driven x rail)
                    | inr rest ↦
                        elim (member_cases x (codes "ko") [] rest) [
                          | inl is_ko ↦ inr (subst (λ z. Member z (map output_name parts.cells)) is_ko (root_driven zero (omega arith)))
                          | inr none ↦ elim none [ ]
                        ]
                  ]
            ]
        | inr pin ↦
            let (k, c, at, in_pins) = member_of_flat_map (λ (cell : PartCell). cell.pins) parts.cells x pin in
            pin_driven x c (member_at parts.cells k c at) in_pins
      ]

  -- no rule is broken
  pub is_faultless : IsFaultless parts
  is_faultless =
      (few, differ_from_apart (cell_names parts) cells_apart, (λ net within. let one = once net within in omega (arith, one)), λ net within. let one = once net within in omega (arith, one))
    where
      few : length parts.cells ≤ 131072
      few = let units = small.small in omega (arith, few_cells models are small parts put, units)

      once : (net : ℕ) → net < length (nets_of parts) → drivers_at parts net ≡ 1
      once = driven_once parts (ports_differ models are small parts put) outputs_apart no_input name_driven
