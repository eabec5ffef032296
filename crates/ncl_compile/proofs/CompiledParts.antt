-- A netlist of parts that models are put together of is compiled from them.
use Rattle.ncl_compile.proofs.Terms.{All, All-from_members, AreModels, CanBeCompiled, Cell, Compiled, Contains, Contains-from_Member, IsNetlist, IsPlain, IsPutTogether, List, MOST_BYTES, Member, Member-append_left, Member-append_right, Model, NamePair, Parts, PipelineData, Port, Shape, Shape-from_assembled, [], answer_width, ap, arith, cell_of, codes, false, here, input_pairs, is_data_register, is_plain, length, length-map, length-map-range_with_len, map, named_pair, names_of_rails, netlist_of, nets_of, no_data_cell, output_pairs, pair_names, port_names, port_pair, refl, subst, sym, text_of, there, width_of, ℕ, ◌++◌, ◌∙◌, ◌∷◌, ◌≡◌, ◌≤◌}
use Rattle.ncl_compile.proofs.CellCount.{few_cells}
use Rattle.ncl_compile.proofs.Numbering.{pipeline_of}
use Rattle.ncl_compile.proofs.NumberedNames.{net_number, pins_of_parts, name_of_number}
use Rattle.ncl_compile.proofs.NumberedPorts.{names_in, names_out, names_of_ports_for}
use Rattle.ncl_compile.proofs.PartsAssembled.{is_assembled, are_sound, compute_models}
use Rattle.ncl_compile.proofs.StageFunctions.{function-computes}

-- the names of the rails of pairs that occur are those of the pairs
names_back : (parts : Parts) (pairs : List NamePair) → ((x : List ℕ) → Member x (pair_names pairs) → Member x (port_names parts ++ pins_of_parts parts)) → map (names_of_rails (netlist_of parts)) (map (named_pair (net_number parts)) pairs) ≡ pairs
names_back parts [] occur = refl
names_back parts (pair ∷ pairs) occur =
    let zero_is = name_of_number parts pair.zero (occur pair.zero here) in
    let one_is = name_of_number parts pair.one (occur pair.one (there here)) in
    let rest = names_back parts pairs (λ x m. occur x (there (there m))) in
    λ i. record { zero = zero_is i; one = one_is i } ∷ rest i

module _ (models : List Model) (are : AreModels models) (small : CanBeCompiled models) (parts : Parts) (put : IsPutTogether models parts) (is : IsNetlist (netlist_of parts)) where
  abbrev pipeline : PipelineData
  pipeline = pipeline_of models put.stages put.banks parts

  shape : Shape (netlist_of parts) pipeline
  shape = Shape-from_assembled (netlist_of parts) pipeline (is_assembled models are small parts put is)

  -- names of ports occur
  ports_are : port_names parts ≡ names_in (width_of models) ++ names_out (answer_width models)
  ports_are = ap (map (λ (port : Port). port.name)) put.ports ∙ names_of_ports_for (width_of models) (answer_width models)

  port_occurs : (x : List ℕ) → Member x (names_in (width_of models) ++ names_out (answer_width models)) → Member x (port_names parts ++ pins_of_parts parts)
  port_occurs x m = Member-append_left x (pins_of_parts parts) (subst (Member x) (sym ports_are) m)

  input_occurs : (x : List ℕ) → Member x (names_in (width_of models)) → Member x (port_names parts ++ pins_of_parts parts)
  input_occurs x m = port_occurs x (Member-append_left x (names_out (answer_width models)) m)

  output_occurs : (x : List ℕ) → Member x (names_out (answer_width models)) → Member x (port_names parts ++ pins_of_parts parts)
  output_occurs x m = port_occurs x (Member-append_right (names_in (width_of models)) x m)

  module _ (plain_nets : All IsPlain (nets_of parts)) (plain_cells : All (λ (cell : Cell). IsPlain cell.name) (map (cell_of (nets_of parts)) parts.cells))
      (apart : (cell : Cell) → Contains (map (cell_of (nets_of parts)) parts.cells) cell → Contains (nets_of parts) cell.name → ⊥) (short : length (text_of (netlist_of parts)) ≤ MOST_BYTES) where
    pub is_compiled : Compiled models (netlist_of parts)
    is_compiled = record {
      pipeline = pipeline;
      shape = shape;
      stages = compute_models models are small parts put;
      sound = are_sound models are small parts put;
      function = λ word answer width computes.
          function-computes (netlist_of parts) pipeline shape (are_sound models are small parts put) models (compute_models models are small parts put) word answer
          (width ∙ sym (length-map (input_pairs (width_of models)) (named_pair (net_number parts)) ∙ length-map-range_with_len (port_pair (codes "i")) 1 (width_of models))) computes;
      no_data = All-from_members (λ (cell : Cell). is_data_register cell.kind ≡ false) (map (cell_of (nets_of parts)) parts.cells)
          (λ cell m. no_data_cell (netlist_of parts) pipeline (is_assembled models are small parts put is) cell (Contains-from_Member cell m));
      title = put.title;
      ports = put.ports;
      inputs = names_back parts (input_pairs (width_of models)) (λ x m. input_occurs x (Member-append_left x (codes "ki" ∷ codes "rst" ∷ []) m));
      outputs = names_back parts (output_pairs (answer_width models)) (λ x m. output_occurs x (Member-append_left x (codes "ko" ∷ []) m));
      ki = name_of_number parts (codes "ki") (input_occurs (codes "ki") (Member-append_right (pair_names (input_pairs (width_of models))) (codes "ki") here));
      ko = name_of_number parts (codes "ko") (output_occurs (codes "ko") (Member-append_right (pair_names (output_pairs (answer_width models))) (codes "ko") here));
      plain_module = ap is_plain put.title;
      plain_nets = plain_nets;
      plain_cells = plain_cells;
      apart = apart;
      few_cells = let few = few_cells models are small parts put in omega (arith, few, length-map parts.cells (cell_of (nets_of parts)));
      short = short;
    }
