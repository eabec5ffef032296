-- The netlist of parts that models are put together of is assembled.
use Rattle.ncl_compile.proofs.Terms.{All, All-cons, All-nil, AllZip, AreModels, BankParts, CanBeCompiled, ComputesModel, IsAssembled, IsNetlist, IsPutTogether, IsSound, IsWiredBank, List, Member, Member-append_left, Member-append_right, Member-flat_map, Model, PartCell, Parts, Some, StageParts, [], ap, arith, bank_prefix, cell_of, codes, cond-false, flat_map, inner_pairs, length, length-append, length-map, length-map-range_with_len, map, member_at, named_net, ne_eqb, netlist_of, nets_of, output_pairs, outputs_of, pair_names, pairs_driven, pairs_read, port_pair, range_with_len, refl, request_name, root_name, slice_get, slice_get-some, slice_get_within, slice_index, subst, suc, sym, width_of, widths_of, zero, ℕ, ◌++◌, ◌+◌, ◌<◌, ◌==◌, ◌∙◌, ◌∷◌, ◌≡◌, ◌≤◌}
use Rattle.ncl_compile.proofs.StandingCells.{StandAt, StandAt-whole, StandAt-left, StandAt-right, range-append}
use Rattle.ncl_compile.proofs.CallLaws.{length-pairs_driven}
use Rattle.ncl_compile.proofs.BankWidths.{width_before, width_first, width_bounds, model_of_stage, stage_of_model, length-outputs}
use Rattle.ncl_compile.proofs.Numbering.{bank_from, banks_from, pipeline_of}
use Rattle.ncl_compile.proofs.NumberedBanks.{bank_is_wired}
use Rattle.ncl_compile.proofs.NumberedNames.{net_number, pins_of_parts}
use Rattle.ncl_compile.proofs.NumberedRows.{BankFact, AreFacts, first_fact, rest_facts, banks_in_row, stages_in_row}
use Rattle.ncl_compile.proofs.NumberedRails.{rails_in, rails_out, roots}
use Rattle.ncl_compile.proofs.NumberedStages.{driven_among, StageFact, AreStageFacts, stages_are_wired, stages_are_sound, stages_compute, numbers_of_stages}
use Rattle.ncl_compile.proofs.NumberedPorts.{ports_are_first, directions_are}

abbrev cells_of_bank : BankParts → List PartCell
cells_of_bank bank = bank.cells

abbrev cells_of_stage : StageParts → List PartCell
cells_of_stage stage = stage.cells

module _ (models : List Model) (are : AreModels models) (small : CanBeCompiled models) (parts : Parts) (put : IsPutTogether models parts) where
  abbrev number : List ℕ → ℕ
  number = net_number parts

  abbrev stages : List StageParts
  stages = put.stages

  abbrev banks : List BankParts
  banks = put.banks

  abbrev width_at : ℕ → ℕ
  width_at k = slice_index (widths_of models) k

  -- where banks and stages stand in the file
  banks_stand : StandAt parts.cells 0 (flat_map cells_of_bank banks)
  banks_stand = StandAt-left parts.cells (flat_map cells_of_bank banks) (flat_map cells_of_stage stages) 0 (subst (StandAt parts.cells 0) put.cells (StandAt-whole parts.cells))

  abbrev start : ℕ
  start = length (flat_map cells_of_bank banks)

  stages_stand : StandAt parts.cells start (flat_map cells_of_stage stages)
  stages_stand =
      let place : 0 + start ≡ start = omega arith in
      subst (λ z. StandAt parts.cells z (flat_map cells_of_stage stages)) place
      (StandAt-right parts.cells (flat_map cells_of_bank banks) (flat_map cells_of_stage stages) 0 (subst (StandAt parts.cells 0) put.cells (StandAt-whole parts.cells)))

  bank_cell_inside : (k : ℕ) (bank : BankParts) → slice_get banks k ≡ Some bank → (c : PartCell) → Member c bank.cells → Member c parts.cells
  bank_cell_inside k bank at c m =
      subst (Member c) (sym put.cells) (Member-append_left c (flat_map cells_of_stage stages) (Member-flat_map cells_of_bank bank c (member_at banks k bank at) m))

  stage_cell_inside : (k : ℕ) (stage : StageParts) → slice_get stages k ≡ Some stage → (c : PartCell) → Member c stage.cells → Member c parts.cells
  stage_cell_inside k stage at c m =
      subst (Member c) (sym put.cells) (Member-append_right (flat_map cells_of_bank banks) c (Member-flat_map cells_of_stage stage c (member_at stages k stage at) m))

  -- what is known of each bank
  reads_width : (k : ℕ) → k ≤ length models → length (pairs_read (width_of models) stages k) ≡ width_at k
  reads_width zero within = length-map-range_with_len (port_pair (codes "i")) 1 (width_of models) ∙ sym (width_first models are.some)
  reads_width (suc k) within =
      let (stage, at) = stage_of_model models are small stages put.are_stages k (omega arith) in
      ap (λ o. length (outputs_of o)) at ∙ length-outputs models are small stages put.are_stages k stage at

  bank_within : (k : ℕ) (bank : BankParts) → slice_get banks k ≡ Some bank → k ≤ length models
  bank_within k bank at =
      let within = slice_get_within banks k bank at in
      let many = put.are_banks.as_many in
      omega (arith, within, many)

  pub bank_fact : (k : ℕ) (bank : BankParts) → slice_get banks k ≡ Some bank → BankFact models stages k bank
  bank_fact k bank at = record {
    are = put.are_banks.each k bank at;
    long_ins = reads_width k (bank_within k bank at);
    long_outs = length-pairs_driven (length models) k (width_at k);
  }

  bank_facts : AreFacts number models stages 0 banks
  bank_facts i bank at = let place : i ≡ 0 + i = omega arith in subst (λ z. BankFact models stages z bank) place (bank_fact i bank at)

  -- so each is wired
  banks_are_wired : (k first : ℕ) (list : List BankParts) → k + length list ≤ length models + 1 → AreFacts number models stages k list → StandAt parts.cells first (flat_map cells_of_bank list) → All (IsWiredBank (netlist_of parts) (named_net number (codes "rst"))) (banks_from number models stages k first list)
  banks_are_wired k first [] few facts stands = All-nil (IsWiredBank (netlist_of parts) (named_net number (codes "rst")))
  banks_are_wired k first (bank ∷ list) few facts stands =
      let fact = first_fact number models stages k bank list facts in
      let (some, narrow) = width_bounds models are small k (omega arith) in
      All-cons (IsWiredBank (netlist_of parts) (named_net number (codes "rst"))) (bank_from number models stages k first bank) (banks_from number models stages (suc k) (first + length bank.cells) list)
      (bank_is_wired parts (pairs_read (width_of models) stages k) (pairs_driven (length models) k (width_at k)) (request_name (length models) k) (root_name k) (bank_prefix k) bank fact.are (width_at k) fact.long_ins fact.long_outs first
      (StandAt-left parts.cells bank.cells (flat_map cells_of_bank list) first stands) some narrow)
      (banks_are_wired (suc k) (first + length bank.cells) list (omega arith) (rest_facts number models stages k bank list facts) (StandAt-right parts.cells bank.cells (flat_map cells_of_bank list) first stands))

  -- what is known of each stage
  stage_known : (k : ℕ) → k < length models → (x : List ℕ) → Member x (pair_names (inner_pairs k (width_at k))) → Member x (pins_of_parts parts)
  stage_known k lt x m =
      let many = put.are_banks.as_many in
      let (bank, at) = slice_get-some banks k (omega (arith, lt, many)) in
      let fact = bank_fact k bank at in
      let other = ne_eqb k (length models) (λ e. absurd (omega (arith, lt, e))) in
      let driven : pairs_driven (length models) k (width_at k) ≡ inner_pairs k (width_at k) = cond-false (k == length models) (output_pairs (width_at k)) (inner_pairs k (width_at k)) other in
      driven_among parts (pairs_read (width_of models) stages k) (pairs_driven (length models) k (width_at k)) (request_name (length models) k) (codes "rst") (root_name k) (bank_prefix k) bank fact.are (width_at k) fact.long_ins fact.long_outs
      (bank_cell_inside k bank at) x (subst (λ l. Member x (pair_names l)) (sym driven) m)

  stage_fact : (k : ℕ) (stage : StageParts) → slice_get stages k ≡ Some stage → StageFact parts models k stage
  stage_fact k stage at =
      let (model, at_model) = model_of_stage models are small stages put.are_stages k stage at in
      record {
        model = model;
        at = at_model;
        width = width_before models k model at_model;
        is = put.are_stages.each k model stage at_model at;
        known = stage_known k (slice_get_within models k model at_model);
        inside = stage_cell_inside k stage at;
      }

  stage_facts : AreStageFacts parts models stages 0 stages
  stage_facts i stage at = let place : i ≡ 0 + i = omega arith in subst (λ z. StageFact parts models z stage) place (stage_fact i stage at)

  as_many_banks : length banks ≡ suc (length stages)
  as_many_banks = let many = put.are_banks.as_many in let stages_many = put.are_stages.as_many in omega (arith, many, stages_many)

  length-banks_from : (k first : ℕ) (list : List BankParts) → length (banks_from number models stages k first list) ≡ length list
  length-banks_from k first [] = refl
  length-banks_from k first (bank ∷ list) = ap suc (length-banks_from (suc k) (first + length bank.cells) list)

  cells_in_row : length (map (cell_of (nets_of parts)) parts.cells) ≡ start + length (flat_map cells_of_stage stages)
  cells_in_row = length-map parts.cells (cell_of (nets_of parts)) ∙ ap length put.cells ∙ length-append (flat_map cells_of_bank banks) (flat_map cells_of_stage stages)

  -- the netlist is assembled
  pub is_assembled : IsNetlist (netlist_of parts) → IsAssembled (netlist_of parts) (pipeline_of models stages banks parts)
  is_assembled is = record {
    is_netlist = is;
    netlist = refl;
    wired = banks_from number models stages 0 0 banks;
    rst = named_net number (codes "rst");
    banks = refl;
    each_bank = let many = put.are_banks.as_many in banks_are_wired 0 0 banks (omega (arith, many)) bank_facts banks_stand;
    few_banks = let many = put.are_banks.as_many in let few = small.few in omega (arith, length-banks_from 0 0 banks, many, few);
    each_stage = stages_are_wired parts models stages 0 start stages stage_facts stages_stand;
    numbers = λ k s at. let count = numbers_of_stages parts models stages 0 start stages k s at in omega (arith, count);
    rails_in = rails_in number models stages banks bank_facts as_many_banks put.are_stages.as_many start;
    rails_out = rails_out number models stages banks bank_facts as_many_banks put.are_stages.as_many start;
    roots = roots number models stages banks bank_facts as_many_banks put.are_stages.as_many start;
    cells =
        let place : start ≡ 0 + start = omega arith in
        (λ i. banks_in_row number models stages 0 0 banks bank_facts i ++ stages_in_row number models stages 0 start stages i)
        ∙ ap (λ z. range_with_len 0 start ++ range_with_len z (length (flat_map cells_of_stage stages))) place
        ∙ range-append 0 start (length (flat_map cells_of_stage stages))
        ∙ ap (range_with_len 0) (sym cells_in_row);
    ports = ports_are_first models stages banks parts put.ports is;
    directions = directions_are models stages banks parts put.ports;
  }

  -- its stages are sound, and each gives the answers of its model
  pub are_sound : All IsSound (pipeline_of models stages banks parts).stages
  are_sound = stages_are_sound parts models stages 0 start stages stage_facts

  pub compute_models : AllZip ComputesModel models (pipeline_of models stages banks parts).stages
  compute_models = stages_compute parts models stages 0 start stages models stage_facts put.are_stages.as_many (λ i model at. let place : 0 + i ≡ i = omega arith in ap (slice_get models) place ∙ at)
