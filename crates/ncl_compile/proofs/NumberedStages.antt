-- Stages of which the cells stand in the parts of a netlist are stages of that netlist, sound, and give the answers of
-- their networks.
use Rattle.ncl_compile.proofs.Terms.{All, All-cons, All-member, All-nil, AllPairs, AllZip, AreBankParts, BankParts, ComputesModel, Contains, HasAllPins, IsNumberedStage, IsSound, IsStageOfModel, IsWiredStage, List, Member, Member-append_cases, Member-from_Contains, Model, NamePair, PartCell, Parts, Rise, Some, StageCell, StageData, StageParts, [], ap, arith, flat_map, get_or-range_with_len, inl, inner_pair, inner_pairs, inr, length, length-map, length-map-range_with_len, length-range_with_len, map, member_of_map, named_pair, names_known, netlist_of, output_name, pair_names, pairs_of_map, range_with_len, refl, slice_get, slice_index, stage_prefix, subst, suc, sym, widths_of, zero, ℕ, ◌+◌, ◌<◌, ◌∙◌, ◌∷◌, ◌≡◌}
use Rattle.ncl_compile.proofs.StandingCells.{StandAt, StandAt-left, StandAt-right}
use Rattle.ncl_compile.proofs.BankNames.{bank_all_pins, bank_drives_rails}
use Rattle.ncl_compile.proofs.Numbering.{numbered_gates, stage_from, stages_from}
use Rattle.ncl_compile.proofs.NumberedGates.{IsGatePart, gates_have, gate_numbers-row, are_numbered}
use Rattle.ncl_compile.proofs.NumberedNames.{pins_of_parts, net_number, same_number, output_among}
use Rattle.ncl_compile.proofs.StageFunctions.{ComputesModel-from_network}

-- numbers in a row rise
row_rises : (first count : ℕ) → Rise (range_with_len first count)
row_rises first count i j d less within =
    let long = length-range_with_len first count in
    let at_i = get_or-range_with_len first count i d (omega (arith, less, within, long)) in
    let at_j = get_or-range_with_len first count j d (omega (arith, within, long)) in
    omega (arith, at_i, at_j, less)

-- what cells drive, that stand with all their pins in the parts, is on pins of these
outputs_among : (parts : Parts) (cells : List PartCell) → ((c : PartCell) → Member c cells → Member c parts.cells) → ((c : PartCell) → Member c cells → HasAllPins c) → (x : List ℕ) → Member x (map output_name cells) → Member x (pins_of_parts parts)
outputs_among parts cells in_parts pins x m =
    let (c, in_cells, same) = member_of_map output_name cells x m in
    subst (λ z. Member z (pins_of_parts parts)) same (output_among parts c (in_parts c in_cells) (pins c in_cells))

-- the rails that a bank drives are among these
pub driven_among : (parts : Parts) (ins outs : List NamePair) (request rst root prefix : List ℕ) (bank : BankParts) (are : AreBankParts ins outs request rst root prefix bank) (width : ℕ) → length ins ≡ width → length outs ≡ width
    → ((c : PartCell) → Member c bank.cells → Member c parts.cells) → (x : List ℕ) → Member x (pair_names outs) → Member x (pins_of_parts parts)
driven_among parts ins outs request rst root prefix bank are width long_ins long_outs in_parts x m =
    outputs_among parts bank.cells in_parts (bank_all_pins ins outs request rst root prefix bank are) x (bank_drives_rails ins outs request rst root prefix bank are width long_ins long_outs x m)

module _ (parts : Parts) (ins : List NamePair) (stage : StageParts) (known : (x : List ℕ) → Member x (pair_names ins) → Member x (pins_of_parts parts))
    (in_parts : (c : PartCell) → Member c stage.cells → Member c parts.cells) (gates : All IsGatePart stage.cells) (pins : All HasAllPins stage.cells) where
  name_known : (x : List ℕ) → Contains (names_known ins stage.cells) x → Member x (pins_of_parts parts)
  name_known x met =
      elim (Member-append_cases x (pair_names ins) (map output_name stage.cells) (Member-from_Contains (names_known ins stage.cells) x met)) [
        | inl rail ↦ known x rail
        | inr made ↦ outputs_among parts stage.cells in_parts (All-member HasAllPins stage.cells pins) x made
      ]

  -- such a stage is numbered
  pub stage_is_numbered : (number first : ℕ) → IsNumberedStage (net_number parts) ins stage.outputs stage.cells (record { number = number; inputs = map (named_pair (net_number parts)) ins; cells = numbered_gates (net_number parts) first stage.cells; outputs = map (named_pair (net_number parts)) stage.outputs })
  stage_is_numbered number first = record {
    one_to_one = λ x y in_x in_y same. same_number parts x y (name_known x in_x) (name_known y in_y) same;
    inputs = refl;
    outputs = refl;
    each = are_numbered (net_number parts) first stage.cells gates;
    cells_differ =
        let rising : AllPairs (λ (x y : StageCell). x.cell.0 < y.cell.0) (numbered_gates (net_number parts) first stage.cells) =
        pairs_of_map (λ x y. x < y) (λ (g : StageCell). g.cell.0) (numbered_gates (net_number parts) first stage.cells) (subst Rise (sym (gate_numbers-row (net_number parts) first stage.cells)) (row_rises first (length stage.cells))) in
        λ i j d less within same. let grows = rising i j d less within in omega (arith, grows, same);
  }

-- what is known of a stage by its number
pub record StageFact (parts : Parts) (models : List Model) (k : ℕ) (stage : StageParts) : Type 0 where
  pub model : Model
  pub at : slice_get models k ≡ Some model
  pub width : slice_index (widths_of models) k ≡ length model.inputs
  pub is : IsStageOfModel model (inner_pairs k (length model.inputs)) (stage_prefix k) stage
  pub known : (x : List ℕ) → Member x (pair_names (inner_pairs k (slice_index (widths_of models) k))) → Member x (pins_of_parts parts)
  pub inside : (c : PartCell) → Member c stage.cells → Member c parts.cells

module _ (parts : Parts) (models : List Model) (stages : List StageParts) where
  abbrev number_of_net : List ℕ → ℕ
  number_of_net = net_number parts

  -- one stage
  module _ (k first : ℕ) (stage : StageParts) (fact : StageFact parts models k stage) where
    own : IsStageOfModel fact.model (inner_pairs k (slice_index (widths_of models) k)) (stage_prefix k) stage
    own = subst (λ w. IsStageOfModel fact.model (inner_pairs k w) (stage_prefix k) stage) (sym fact.width) fact.is

    numbered : IsNumberedStage number_of_net (inner_pairs k (slice_index (widths_of models) k)) stage.outputs stage.cells (stage_from number_of_net models stages k first stage)
    numbered = stage_is_numbered parts (inner_pairs k (slice_index (widths_of models) k)) stage fact.known fact.inside own.are.gates own.are.all_pins (k + 1) first

    pub stage_is_wired : StandAt parts.cells first stage.cells → IsWiredStage (netlist_of parts) (stage_from number_of_net models stages k first stage)
    stage_is_wired stands = record {
      is_stage = own.are.is_stage number_of_net (stage_from number_of_net models stages k first stage) numbered;
      gates = gates_have parts first stage.cells stands own.are.gates;
    }

    pub stage_is_sound : IsSound (stage_from number_of_net models stages k first stage)
    stage_is_sound = own.are.sound number_of_net (stage_from number_of_net models stages k first stage) numbered

    pub stage_computes : ComputesModel fact.model (stage_from number_of_net models stages k first stage)
    stage_computes =
        ComputesModel-from_network fact.model own.network (stage_from number_of_net models stages k first stage)
        (length-map (inner_pairs k (slice_index (widths_of models) k)) (named_pair number_of_net) ∙ length-map-range_with_len (inner_pair k) 0 (slice_index (widths_of models) k) ∙ fact.width)
        (length-map stage.outputs (named_pair number_of_net) ∙ own.are.as_many ∙ own.outputs)
        own.same (own.are.answers number_of_net (stage_from number_of_net models stages k first stage) numbered)

  -- stages from a number on
  abbrev pub AreStageFacts : ℕ → List StageParts → Type 0
  AreStageFacts k list = (i : ℕ) (stage : StageParts) → slice_get list i ≡ Some stage → StageFact parts models (k + i) stage

  first_stage : (k : ℕ) (stage : StageParts) (list : List StageParts) → AreStageFacts k (stage ∷ list) → StageFact parts models k stage
  first_stage k stage list facts = let place : k + 0 ≡ k = omega arith in subst (λ z. StageFact parts models z stage) place (facts zero stage refl)

  rest_stages : (k : ℕ) (stage : StageParts) (list : List StageParts) → AreStageFacts k (stage ∷ list) → AreStageFacts (suc k) list
  rest_stages k stage list facts i other at = let place : k + suc i ≡ suc k + i = omega arith in subst (λ z. StageFact parts models z other) place (facts (suc i) other at)

  pub stages_are_wired : (k first : ℕ) (list : List StageParts) → AreStageFacts k list → StandAt parts.cells first (flat_map (λ (stage : StageParts). stage.cells) list) → All (IsWiredStage (netlist_of parts)) (stages_from number_of_net models stages k first list)
  stages_are_wired k first [] facts stands = All-nil (IsWiredStage (netlist_of parts))
  stages_are_wired k first (stage ∷ list) facts stands =
      All-cons (IsWiredStage (netlist_of parts)) (stage_from number_of_net models stages k first stage) (stages_from number_of_net models stages (suc k) (first + length stage.cells) list)
      (stage_is_wired k first stage (first_stage k stage list facts) (StandAt-left parts.cells stage.cells (flat_map (λ (stage : StageParts). stage.cells) list) first stands))
      (stages_are_wired (suc k) (first + length stage.cells) list (rest_stages k stage list facts) (StandAt-right parts.cells stage.cells (flat_map (λ (stage : StageParts). stage.cells) list) first stands))

  pub stages_are_sound : (k first : ℕ) (list : List StageParts) → AreStageFacts k list → All IsSound (stages_from number_of_net models stages k first list)
  stages_are_sound k first [] facts = All-nil IsSound
  stages_are_sound k first (stage ∷ list) facts =
      All-cons IsSound (stage_from number_of_net models stages k first stage) (stages_from number_of_net models stages (suc k) (first + length stage.cells) list)
      (stage_is_sound k first stage (first_stage k stage list facts)) (stages_are_sound (suc k) (first + length stage.cells) list (rest_stages k stage list facts))

  -- each gives the answers of its model
  pub stages_compute : (k first : ℕ) (list : List StageParts) (some : List Model) → AreStageFacts k list → length list ≡ length some → ((i : ℕ) (model : Model) → slice_get some i ≡ Some model → slice_get models (k + i) ≡ Some model) → AllZip ComputesModel some (stages_from number_of_net models stages k first list)
  stages_compute k first [] [] facts long at = tt
  stages_compute k first [] (m ∷ some) facts long at = absurd (omega arith)
  stages_compute k first (stage ∷ list) [] facts long at = absurd (omega arith)
  stages_compute k first (stage ∷ list) (m ∷ some) facts long at =
      let fact = first_stage k stage list facts in
      let place : k ≡ k + 0 = omega arith in
      let here : slice_get models k ≡ Some m = ap (slice_get models) place ∙ at zero m refl in
      let both : Some fact.model ≡ Some m = sym fact.at ∙ here in
      let same : fact.model ≡ m = cc in (
        subst (λ z. ComputesModel z (stage_from number_of_net models stages k first stage)) same (stage_computes k first stage fact),
        stages_compute (suc k) (first + length stage.cells) list some (rest_stages k stage list facts) (omega arith)
            (λ i other at_i. let later : suc k + i ≡ k + suc i = omega arith in ap (slice_get models) later ∙ at (suc i) other at_i),
      )

  -- and its number
  pub numbers_of_stages : (k first : ℕ) (list : List StageParts) (i : ℕ) (s : StageData) → slice_get (stages_from number_of_net models stages k first list) i ≡ Some s → s.number ≡ k + i + 1
  numbers_of_stages k first [] i s at = absurd cc
  numbers_of_stages k first (stage ∷ list) zero s at =
      let same : stage_from number_of_net models stages k first stage ≡ s = cc in
      let number = ap (λ (z : StageData). z.number) (sym same) in
      omega (arith, number)
  numbers_of_stages k first (stage ∷ list) (suc i) s at = let later = numbers_of_stages (suc k) (first + length stage.cells) list i s at in omega (arith, later)
