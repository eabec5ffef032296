-- What the cells of a bank read and drive.
use Rattle.ncl_bank.proofs.Terms.{Conjunctions, Gate, IsFamilyGate, IsOfFamily, Kind, List, NamePair, Some, StageCell, Unnamed, [], ack_of, all_four, all_three, all_two, ap, arith, arity_of, bank_pins, drop, drop_all, drop_more, get_or, get_or_push, length, length-map, length_push, map, map-append, name_at, nets_of_gate, pair_list, pair_names, pins_of, refl, register_with, slice_get, slice_index_or, suc, sym, take, take_at, tree_cell_of, zip, ℕ, ◌++◌, ◌+◌, ◌-◌, ◌<◌, ◌∙◌, ◌∷◌, ◌≡◌, ◌≤◌}

-- the names at the input pins of a cell, and the one at its output
abbrev pub inputs_of : Unnamed → List (List ℕ)
inputs_of cell = take (length cell.pins - 1) cell.pins

abbrev pub output_of : Unnamed → List ℕ
output_of cell = slice_index_or cell.pins (length cell.pins - 1) []

-- ---- register cells

pub pins-registers : (pins : List (List (List ℕ))) → map (λ (cell : Unnamed). cell.pins) (map register_with pins) ≡ pins
pins-registers [] = refl
pins-registers (p ∷ pins) = ap (λ rest. p ∷ rest) (pins-registers pins)

pub outputs-registers : (request rst : List ℕ) (ins outs : List NamePair) → length outs ≡ length ins → map output_of (map register_with (bank_pins ins outs request rst)) ≡ pair_names outs
outputs-registers request rst [] [] same = refl
outputs-registers request rst [] (to ∷ outs) same = absurd (omega arith)
outputs-registers request rst (from ∷ ins) [] same = absurd (omega arith)
outputs-registers request rst (from ∷ ins) (to ∷ outs) same =
    ap (λ rest. to.zero ∷ to.one ∷ rest) (outputs-registers request rst ins outs (omega arith))

-- ---- acknowledge cells

pub inputs-acks : (pairs : List NamePair) (nets : List (List ℕ)) → length pairs ≤ length nets → map inputs_of (map ack_of (zip pairs nets)) ≡ map pair_list pairs
inputs-acks [] nets enough = refl
inputs-acks (pair ∷ pairs) [] enough = absurd (omega arith)
inputs-acks (pair ∷ pairs) (net ∷ nets) enough = ap (λ rest. pair_list pair ∷ rest) (inputs-acks pairs nets (omega arith))

pub outputs-acks : (pairs : List NamePair) (nets : List (List ℕ)) → length pairs ≤ length nets → map output_of (map ack_of (zip pairs nets)) ≡ take (length pairs) nets
outputs-acks [] nets enough = refl
outputs-acks (pair ∷ pairs) [] enough = absurd (omega arith)
outputs-acks (pair ∷ pairs) (net ∷ nets) enough = ap (λ rest. net ∷ rest) (outputs-acks pairs nets (omega arith))

-- ---- tree cells

module _ (nets : List (List ℕ)) (gate : StageCell) where
  pins_split : map (name_at nets) (nets_of_gate gate) ≡ map (name_at nets) gate.ins.items ++ name_at nets gate.out ∷ []
  pins_split = map-append (name_at nets) gate.ins.items (gate.out ∷ [])

  pins_count : length (map (name_at nets) (nets_of_gate gate)) ≡ length (map (name_at nets) gate.ins.items) + 1
  pins_count = ap length pins_split ∙ length_push (map (name_at nets) gate.ins.items) (name_at nets gate.out)

  pub inputs-tree_cell : inputs_of (tree_cell_of nets gate) ≡ map (name_at nets) gate.ins.items
  inputs-tree_cell =
      ap (take (length (map (name_at nets) (nets_of_gate gate)) - 1)) pins_split
      ∙ take_at (map (name_at nets) gate.ins.items) (name_at nets gate.out ∷ []) _ (omega (arith, pins_count))

  pub output-tree_cell : output_of (tree_cell_of nets gate) ≡ name_at nets gate.out
  output-tree_cell =
      ap (λ pins. slice_index_or pins (length (map (name_at nets) (nets_of_gate gate)) - 1) []) pins_split
      ∙ get_or_push (map (name_at nets) gate.ins.items) (name_at nets gate.out) [] _ (omega (arith, pins_count))

  all_pins : (kind : Kind) → IsOfFamily Conjunctions kind → length (pins_of (Gate kind)) ≡ arity_of kind + 1
  all_pins _ all_two = refl
  all_pins _ all_three = refl
  all_pins _ all_four = refl

  -- a gate of the family has a net for each pin
  pub pins-tree_cell : IsFamilyGate Conjunctions gate → length (map (name_at nets) (nets_of_gate gate)) ≡ length (pins_of (Gate gate.kind))
  pins-tree_cell fits =
      omega (arith, pins_count, all_pins gate.kind fits.kind, fits.arity, length-map gate.ins.items (name_at nets))

-- numbered gates drive the nets from a number on
pub outputs-tree : (nets : List (List ℕ)) (first : ℕ) (gates : List StageCell) → ((k : ℕ) (c : StageCell) → slice_get gates k ≡ Some c → c.out.0 ≡ first + k) → first + length gates ≡ length nets → map output_of (map (tree_cell_of nets) gates) ≡ drop first nets
outputs-tree nets first [] numbered whole = sym (drop_all first nets (omega (arith, whole)))
outputs-tree nets first (gate ∷ gates) numbered whole =
    let number : gate.out.0 ≡ first = numbered 0 gate refl ∙ omega arith in
    let within : first < length nets = omega (arith, whole) in
    (λ i. (output-tree_cell nets gate ∙ ap (λ n. get_or nets n []) number) i ∷ outputs-tree nets (first + 1) gates (λ k c at. numbered (suc k) c at ∙ omega arith) (omega (arith, whole)) i)
    ∙ sym (drop_more nets first [] within)
