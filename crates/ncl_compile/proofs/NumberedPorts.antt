-- The ports of a compiled netlist by numbers: they are the first nets, the inputs before the outputs.
use Rattle.ncl_compile.proofs.Terms.{BankParts, Bool, IsNetlist, List, Model, Parts, Port, StageParts, [], answer_width, ap, codes, false, input_nets, input_pairs, length, map, map-append, named_net, netlist_of, output_nets, output_pairs, pair_names, ports_for, ports_named, range_with_len, sym, true, width_of, ℕ, ◌++◌, ◌∙◌, ◌∷◌, ◌≡◌}
use Rattle.ncl_compile.proofs.Numbering.{pipeline_of}
use Rattle.ncl_compile.proofs.NumberedNames.{net_number, ports_in_row, rail_nets-numbered, names_of_ports, directions_of_ports}

-- the names of the input ports and of the output ports
abbrev pub names_in : ℕ → List (List ℕ)
names_in width = pair_names (input_pairs width) ++ codes "ki" ∷ codes "rst" ∷ []

abbrev pub names_out : ℕ → List (List ℕ)
names_out width = pair_names (output_pairs width) ++ codes "ko" ∷ []

abbrev name_of : Port → List ℕ
name_of port = port.name

abbrev direction_of : Port → Bool
direction_of port = port.output

-- the names of all ports
pub names_of_ports_for : (inputs outputs : ℕ) → map name_of (ports_for inputs outputs) ≡ names_in inputs ++ names_out outputs
names_of_ports_for inputs outputs =
    map-append name_of (ports_named false (names_in inputs)) (ports_named true (names_out outputs))
    ∙ (λ i. names_of_ports false (names_in inputs) i ++ names_of_ports true (names_out outputs) i)

module _ (models : List Model) (stages : List StageParts) (banks : List BankParts) (parts : Parts) (ports : parts.ports ≡ ports_for (width_of models) (answer_width models)) where
  abbrev number : List ℕ → ℕ
  number = net_number parts

  ins_numbered : input_nets (pipeline_of models stages banks parts) (named_net number (codes "rst")) ≡ map number (names_in (width_of models))
  ins_numbered =
      ap (λ l. l ++ number (codes "ki") ∷ number (codes "rst") ∷ []) (rail_nets-numbered number (input_pairs (width_of models)))
      ∙ sym (map-append number (pair_names (input_pairs (width_of models))) (codes "ki" ∷ codes "rst" ∷ []))

  outs_numbered : output_nets (pipeline_of models stages banks parts) ≡ map number (names_out (answer_width models))
  outs_numbered =
      ap (λ l. l ++ number (codes "ko") ∷ []) (rail_nets-numbered number (output_pairs (answer_width models)))
      ∙ sym (map-append number (pair_names (output_pairs (answer_width models))) (codes "ko" ∷ []))

  pub ports_are_first : IsNetlist (netlist_of parts) → input_nets (pipeline_of models stages banks parts) (named_net number (codes "rst")) ++ output_nets (pipeline_of models stages banks parts) ≡ range_with_len 0 (length parts.ports)
  ports_are_first is =
      (λ i. ins_numbered i ++ outs_numbered i)
      ∙ sym (map-append number (names_in (width_of models)) (names_out (answer_width models)))
      ∙ ap (map number) (sym (ap (map name_of) ports ∙ names_of_ports_for (width_of models) (answer_width models)))
      ∙ ports_in_row parts is

  pub directions_are : map direction_of parts.ports ≡ map (λ net. false) (input_nets (pipeline_of models stages banks parts) (named_net number (codes "rst"))) ++ map (λ net. true) (output_nets (pipeline_of models stages banks parts))
  directions_are =
      ap (map direction_of) ports
      ∙ map-append direction_of (ports_named false (names_in (width_of models))) (ports_named true (names_out (answer_width models)))
      ∙ (λ i. directions_of_ports false (names_in (width_of models)) number i ++ directions_of_ports true (names_out (answer_width models)) number i)
      ∙ (λ i. map (λ net. false) (sym ins_numbered i) ++ map (λ net. true) (sym outs_numbered i))
