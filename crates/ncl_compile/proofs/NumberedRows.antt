-- The cells of banks and stages are numbered in a row.
use Rattle.ncl_compile.proofs.Terms.{AreBankParts, BankParts, IsBankBetween, List, Model, NamePair, Some, StageData, StageParts, WiredBit, [], ap, arith, bank_numbers, bank_prefix, codes, drop, flat_map, gate_numbers, length, length-append, map, map-map, pairs_driven, pairs_read, range_with_len, refl, register_numbers, request_name, root_name, slice_get, slice_index, subst, suc, sym, width_of, widths_of, zero, ℕ, ◌*◌, ◌++◌, ◌+◌, ◌∙◌, ◌∷◌, ◌≡◌}
use Rattle.ncl_compile.proofs.StandingCells.{range-append, range-pairs, map-range}
use Rattle.ncl_compile.proofs.BankCells.{tree_is, length-cells}
use Rattle.ncl_compile.proofs.Numbering.{numbered_bit, numbered_bank, banks_from, stages_from}
use Rattle.ncl_compile.proofs.NumberedGates.{gate_numbers-row}

flat_map-map : {X Y Z : Type 0} (g : X → Y) (f : Y → List Z) (xs : List X) → flat_map f (map g xs) ≡ flat_map (λ x. f (g x)) xs
flat_map-map g f [] = refl
flat_map-map g f (x ∷ xs) = ap (λ l. f (g x) ++ l) (flat_map-map g f xs)

-- those of one bank
pub bank_in_row : (number : List ℕ → ℕ) (first width : ℕ) (ins outs : List NamePair) (request rst root prefix : List ℕ) (bank : BankParts) → AreBankParts ins outs request rst root prefix bank → length ins ≡ width → length outs ≡ width
    → bank_numbers (numbered_bank number first width ins outs request root bank.cells) ≡ range_with_len first (length bank.cells)
bank_in_row number first width ins outs request rst root prefix bank are long_ins long_outs =
    (λ i. registers i ++ (acks i ++ tree i))
    ∙ ap (λ l. range_with_len first (2 * width) ++ l) (ap (λ k. range_with_len (first + 2 * width) width ++ range_with_len k (length are.tree)) next ∙ range-append (first + 2 * width) width (length are.tree))
    ∙ range-append first (2 * width) (width + length are.tree)
    ∙ ap (range_with_len first) (omega (arith, length-cells ins outs request rst root prefix bank are width long_ins long_outs))
  where
    bit_of : ℕ → WiredBit
    bit_of = numbered_bit number first width ins outs bank.cells

    registers : flat_map register_numbers (map (numbered_bit number first width ins outs bank.cells) (range_with_len 0 width)) ≡ range_with_len first (2 * width)
    registers =
        let from : first + 2 * 0 ≡ first = omega arith in
        flat_map-map (numbered_bit number first width ins outs bank.cells) register_numbers (range_with_len 0 width) ∙ range-pairs first 0 width ∙ ap (λ k. range_with_len k (2 * width)) from

    acks : map (λ (w : WiredBit). w.bit.ack.0) (map (numbered_bit number first width ins outs bank.cells) (range_with_len 0 width)) ≡ range_with_len (first + 2 * width) width
    acks =
        let from : first + 2 * width + 0 ≡ first + 2 * width = omega arith in
        map-map (numbered_bit number first width ins outs bank.cells) (λ (w : WiredBit). w.bit.ack.0) (range_with_len 0 width) ∙ map-range (first + 2 * width) 0 width ∙ ap (λ k. range_with_len k width) from

    tree : gate_numbers (numbered_bank number first width ins outs request root bank.cells).tree ≡ range_with_len (first + 3 * width) (length are.tree)
    tree =
        gate_numbers-row number (first + 3 * width) (drop (3 * width) bank.cells)
        ∙ ap (λ l. range_with_len (first + 3 * width) (length l)) (tree_is ins outs request rst root prefix bank are width long_ins long_outs)

    next : first + 3 * width ≡ first + 2 * width + width
    next = omega arith

-- what is known of a bank by its number
pub record BankFact (models : List Model) (stages : List StageParts) (k : ℕ) (bank : BankParts) : Type 0 where
  pub are : IsBankBetween (pairs_read (width_of models) stages k) (length models) k (slice_index (widths_of models) k) bank
  pub long_ins : length (pairs_read (width_of models) stages k) ≡ slice_index (widths_of models) k
  pub long_outs : length (pairs_driven (length models) k (slice_index (widths_of models) k)) ≡ slice_index (widths_of models) k

module _ (number : List ℕ → ℕ) (models : List Model) (stages : List StageParts) where
  -- of banks from a number on
  abbrev pub AreFacts : ℕ → List BankParts → Type 0
  AreFacts k banks = (i : ℕ) (bank : BankParts) → slice_get banks i ≡ Some bank → BankFact models stages (k + i) bank

  pub first_fact : (k : ℕ) (bank : BankParts) (banks : List BankParts) → AreFacts k (bank ∷ banks) → BankFact models stages k bank
  first_fact k bank banks facts = let place : k + 0 ≡ k = omega arith in subst (λ z. BankFact models stages z bank) place (facts zero bank refl)

  pub rest_facts : (k : ℕ) (bank : BankParts) (banks : List BankParts) → AreFacts k (bank ∷ banks) → AreFacts (suc k) banks
  rest_facts k bank banks facts i other at = let place : k + suc i ≡ suc k + i = omega arith in subst (λ z. BankFact models stages z other) place (facts (suc i) other at)

  -- the numbers of all cells of banks
  pub banks_in_row : (k first : ℕ) (banks : List BankParts) → AreFacts k banks → flat_map bank_numbers (banks_from number models stages k first banks) ≡ range_with_len first (length (flat_map (λ (bank : BankParts). bank.cells) banks))
  banks_in_row k first [] facts = refl
  banks_in_row k first (bank ∷ banks) facts =
      let fact = first_fact k bank banks facts in
      let width = slice_index (widths_of models) k in
      let one = bank_in_row number first width (pairs_read (width_of models) stages k) (pairs_driven (length models) k width) (request_name (length models) k) (codes "rst") (root_name k) (bank_prefix k) bank fact.are fact.long_ins fact.long_outs in
      let rest = banks_in_row (suc k) (first + length bank.cells) banks (rest_facts k bank banks facts) in
      (λ i. one i ++ rest i)
      ∙ range-append first (length bank.cells) (length (flat_map (λ (bank : BankParts). bank.cells) banks))
      ∙ ap (range_with_len first) (sym (length-append bank.cells (flat_map (λ (bank : BankParts). bank.cells) banks)))

  -- and those of all cells of stages
  pub stages_in_row : (k first : ℕ) (list : List StageParts) → flat_map (λ (s : StageData). gate_numbers s.cells) (stages_from number models stages k first list) ≡ range_with_len first (length (flat_map (λ (stage : StageParts). stage.cells) list))
  stages_in_row k first [] = refl
  stages_in_row k first (stage ∷ list) =
      let one = gate_numbers-row number first stage.cells in
      let rest = stages_in_row (suc k) (first + length stage.cells) list in
      (λ i. one i ++ rest i)
      ∙ range-append first (length stage.cells) (length (flat_map (λ (stage : StageParts). stage.cells) list))
      ∙ ap (range_with_len first) (sym (length-append stage.cells (flat_map (λ (stage : StageParts). stage.cells) list)))
