-- Each cell of the parts of a compiled netlist has a net for each pin, and the names of its ports differ.
use Rattle.ncl_compile.proofs.Terms.{All, All-from_members, All-member, AllDiffer, AllPairs-append, AreModels, BankParts, CanBeCompiled, HasAllPins, IsPutTogether, List, MOST_BITS, Member, Member-append_cases, Model, NamePair, Parts, Port, StageParts, [], answer_width, ap, arith, codes, drop, flat_map, inl, input_pairs, inr, length, length-append, length-map, length-map-range_with_len, map, member_cases, member_of_flat_map, output_pairs, pair_names, port_names, port_pair, refl, subst, sym, width_of, ℕ, ◌*◌, ◌++◌, ◌<◌, ◌∙◌, ◌∷◌, ◌≡◌, ◌≢◌, ◌≤◌}
use Rattle.ncl_compile.proofs.BankWidths.{width_first, width_bounds, model_of_stage}
use Rattle.ncl_compile.proofs.NameLaws.{AreApart, differ_from_apart, apart_more}
use Rattle.ncl_compile.proofs.CallLaws.{first_of, other_first, port_first, ports_apart}
use Rattle.ncl_compile.proofs.BankNames.{bank_all_pins}
use Rattle.ncl_compile.proofs.NumberedPorts.{names_in, names_out, names_of_ports_for}

module _ (models : List Model) (are : AreModels models) (small : CanBeCompiled models) (parts : Parts) (put : IsPutTogether models parts) where
  pub all_pins : All HasAllPins parts.cells
  all_pins = All-from_members HasAllPins parts.cells (λ c m.
      elim (Member-append_cases c (flat_map (λ (bank : BankParts). bank.cells) put.banks) (flat_map (λ (stage : StageParts). stage.cells) put.stages) (subst (Member c) put.cells m)) [
        | inl of_banks ↦
            let (k, bank, at, in_bank) = member_of_flat_map (λ (bank : BankParts). bank.cells) put.banks c of_banks in
            bank_all_pins _ _ _ _ _ _ bank (put.are_banks.each k bank at) c in_bank
        | inr of_stages ↦
            let (k, stage, at, in_stage) = member_of_flat_map (λ (stage : StageParts). stage.cells) put.stages c of_stages in
            let (model, at_model) = model_of_stage models are small put.stages put.are_stages k stage at in
            All-member HasAllPins stage.cells (put.are_stages.each k model stage at_model at).are.all_pins c in_stage
      ])

  in_few : width_of models ≤ MOST_BITS
  in_few = let first = width_first models are.some in let bounds = width_bounds models are small 0 (omega arith) in omega (arith, first, bounds.1)

  out_few : answer_width models ≤ MOST_BITS
  out_few = (width_bounds models are small (length models) (omega arith)).1

  -- the names of the ports
  abbrev ports_in : List (List ℕ)
  ports_in = pair_names (input_pairs (width_of models))

  abbrev ports_out : List (List ℕ)
  ports_out = pair_names (output_pairs (answer_width models))

  single : (x : List ℕ) → AreApart (x ∷ [])
  single x = apart_more x [] (λ y m. elim m [ ]) (λ i j d less within. absurd (omega (arith, within)))

  -- a name of a list of one or two
  one_of : (P : List ℕ → Type 0) (x : List ℕ) → P x → (y : List ℕ) → Member y (x ∷ []) → P y
  one_of P x holds y m = elim (member_cases y x [] m) [ inl same ↦ subst P same holds | inr none ↦ elim none [ ] ]

  two_of : (P : List ℕ → Type 0) (x z : List ℕ) → P x → P z → (y : List ℕ) → Member y (x ∷ z ∷ []) → P y
  two_of P x z of_x of_z y m = elim (member_cases y x (z ∷ []) m) [ inl same ↦ subst P same of_x | inr rest ↦ one_of P z of_z y rest ]

  in_apart : AreApart (names_in (width_of models))
  in_apart =
      AllPairs-append (λ x y. x ≢ y) ports_in (codes "ki" ∷ codes "rst" ∷ []) (ports_apart 105 (width_of models) in_few)
      (apart_more (codes "ki") (codes "rst" ∷ []) (one_of (λ y. codes "ki" ≢ y) (codes "rst") (other_first (codes "ki") (codes "rst") 107 114 refl refl (λ e. absurd (omega (arith, e))))) (single (codes "rst")))
      (λ x y in_x in_y.
      let first = port_first 105 (width_of models) x in_x in
      two_of (λ z. x ≢ z) (codes "ki") (codes "rst") (other_first x (codes "ki") 105 107 first refl (λ e. absurd (omega (arith, e)))) (other_first x (codes "rst") 105 114 first refl (λ e. absurd (omega (arith, e)))) y in_y)

  out_apart : AreApart (names_out (answer_width models))
  out_apart =
      AllPairs-append (λ x y. x ≢ y) ports_out (codes "ko" ∷ []) (ports_apart 111 (answer_width models) out_few) (single (codes "ko"))
      (λ x y in_x in_y.
      let first = port_first 111 (answer_width models) x in_x in
      one_of (λ z. x ≢ z) (codes "ko") (other_first x (codes "ko") 111 107 first refl (λ e. absurd (omega (arith, e)))) y in_y)

  ki_no_ko : codes "ki" ≢ codes "ko"
  ki_no_ko same = let seconds : ◌≡◌ {A = ℕ} 105 111 = ap (λ l. first_of (drop 1 l)) same in absurd (omega (arith, seconds))

  -- no input port has the name of an output port
  across : (x y : List ℕ) → Member x (names_in (width_of models)) → Member y (names_out (answer_width models)) → x ≢ y
  across x y in_x in_y =
      elim (Member-append_cases x ports_in (codes "ki" ∷ codes "rst" ∷ []) in_x) [
        | inl rail ↦ let first = port_first 105 (width_of models) x rail in no_output x (other_first x (codes "ko") 105 107 first refl (λ e. absurd (omega (arith, e)))) (λ e. absurd (omega (arith, e, first)))
        | inr other ↦
            two_of (λ z. z ≢ y) (codes "ki") (codes "rst")
            (no_output (codes "ki") ki_no_ko (λ e. absurd (omega (arith, e))))
            (no_output (codes "rst") (other_first (codes "rst") (codes "ko") 114 107 refl refl (λ e. absurd (omega (arith, e)))) (λ e. absurd (omega (arith, e)))) x other
      ]
    where
      no_output : (z : List ℕ) → z ≢ codes "ko" → (first_of z ≡ 111 → ⊥) → z ≢ y
      no_output z no_ko no_o =
          elim (Member-append_cases y ports_out (codes "ko" ∷ []) in_y) [
            | inl rail ↦ λ same. no_o (ap first_of same ∙ port_first 111 (answer_width models) y rail)
            | inr last ↦ one_of (λ v. z ≢ v) (codes "ko") no_ko y last
          ]

  names_apart : AreApart (names_in (width_of models) ++ names_out (answer_width models))
  names_apart = AllPairs-append (λ x y. x ≢ y) (names_in (width_of models)) (names_out (answer_width models)) in_apart out_apart across

  pub ports_differ : AllDiffer (port_names parts)
  ports_differ =
      subst AllDiffer (sym (ap (map (λ (port : Port). port.name)) put.ports ∙ names_of_ports_for (width_of models) (answer_width models)))
      (differ_from_apart (names_in (width_of models) ++ names_out (answer_width models)) names_apart)

  length-pair_names : (pairs : List NamePair) → length (pair_names pairs) ≡ 2 * length pairs
  length-pair_names [] = refl
  length-pair_names (pair ∷ pairs) = let rest = length-pair_names pairs in omega (arith, rest)

  pub ports-count : length parts.ports ≤ 515
  ports-count =
      let names = ap length (ap (map (λ (port : Port). port.name)) put.ports ∙ names_of_ports_for (width_of models) (answer_width models)) in
      let inputs = length-map-range_with_len (port_pair (codes "i")) 1 (width_of models) in
      let outputs = length-map-range_with_len (port_pair (codes "o")) 1 (answer_width models) in
      omega (arith, names, inputs, outputs, in_few, out_few, length-map parts.ports (λ (port : Port). port.name), length-append (names_in (width_of models)) (names_out (answer_width models)), length-append ports_in (codes "ki" ∷ codes "rst" ∷ []), length-append ports_out (codes "ko" ∷ []), length-pair_names (input_pairs (width_of models)), length-pair_names (output_pairs (answer_width models)))

  pub few_ports : length parts.ports < 2147483648
  few_ports = let count = ports-count in omega (arith, count)
