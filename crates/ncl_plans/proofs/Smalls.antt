-- The bits of small nodes, and that they are narrow.
use Rattle.ncl_plans.proofs.Terms.{All, All-cons, All-nil, And, Bool, Choose, Dash, Differ, FromNode, IsNarrow, List, Lit, Majority, Node, One, Op, ReadBefore, Signal, Small, Some, Zero, [], add-zero, ap, arith, bits_of, cover_value, false, get_or, get_or_push, ins_of, is_constant, length, length-map, length-node_values, length_push, map, node_value, node_values, op_value, refl, rows_of, same_Some, signal_kept, signal_value, signals_kept, slice_get, small_ins, small_node, small_value, subst, suc, sym, true, zero, zero-add, ℕ, ◌++◌, ◌+◌, ◌<◌, ◌∙◌, ◌∷◌, ◌≡◌}

-- ---- the value of a small node

and_rows : (a b : Bool) → cover_value true (rows_of And) (a ∷ b ∷ []) ≡ op_value And a b false
and_rows true true = refl
and_rows true false = refl
and_rows false true = refl
and_rows false false = refl

differ_rows : (a b : Bool) → cover_value true (rows_of Differ) (a ∷ b ∷ []) ≡ op_value Differ a b false
differ_rows true true = refl
differ_rows true false = refl
differ_rows false true = refl
differ_rows false false = refl

-- what holds at the eight words of three bits
pub three_bits : (P : Bool → Bool → Bool → Type 0) → P true true true → P true true false → P true false true → P true false false → P false true true → P false true false → P false false true → P false false false → (a b c : Bool) → P a b c
three_bits P p7 p6 p5 p4 p3 p2 p1 p0 true true true = p7
three_bits P p7 p6 p5 p4 p3 p2 p1 p0 true true false = p6
three_bits P p7 p6 p5 p4 p3 p2 p1 p0 true false true = p5
three_bits P p7 p6 p5 p4 p3 p2 p1 p0 true false false = p4
three_bits P p7 p6 p5 p4 p3 p2 p1 p0 false true true = p3
three_bits P p7 p6 p5 p4 p3 p2 p1 p0 false true false = p2
three_bits P p7 p6 p5 p4 p3 p2 p1 p0 false false true = p1
three_bits P p7 p6 p5 p4 p3 p2 p1 p0 false false false = p0

majority_rows : (a b c : Bool) → cover_value true (rows_of Majority) (a ∷ b ∷ c ∷ []) ≡ op_value Majority a b c
majority_rows =
    three_bits (λ a b c. cover_value true (rows_of Majority) (a ∷ b ∷ c ∷ []) ≡ op_value Majority a b c) refl refl refl refl refl refl refl refl

choose_rows : (a b c : Bool) → cover_value true (rows_of Choose) (a ∷ b ∷ c ∷ []) ≡ op_value Choose a b c
choose_rows =
    three_bits (λ a b c. cover_value true (rows_of Choose) (a ∷ b ∷ c ∷ []) ≡ op_value Choose a b c) refl refl refl refl refl refl refl refl

by_op : (op : Op) (s t u : Signal) (word bits : List Bool) → node_value word bits (record { ins = ins_of op s t u; on = true; rows = rows_of op }) ≡ op_value op (signal_value word bits s) (signal_value word bits t) (signal_value word bits u)
by_op And s t u word bits = and_rows (signal_value word bits s) (signal_value word bits t)
by_op Differ s t u word bits = differ_rows (signal_value word bits s) (signal_value word bits t)
by_op Majority s t u word bits = majority_rows (signal_value word bits s) (signal_value word bits t) (signal_value word bits u)
by_op Choose s t u word bits = choose_rows (signal_value word bits s) (signal_value word bits t) (signal_value word bits u)

pub small_node-value : (word bits : List Bool) (small : Small) → node_value word bits (small_node small) ≡ small_value word bits small
small_node-value word bits small = by_op small.op small.first small.second small.third word bits

-- ---- it is narrow

rows_two : (x y : Lit) (rows : List (List Lit)) → All (λ (row : List Lit). length row ≡ 2) rows → All (λ (row : List Lit). length row ≡ 2) ((x ∷ y ∷ []) ∷ rows)
rows_two x y rows = All-cons (λ (row : List Lit). length row ≡ 2) (x ∷ y ∷ []) rows refl

rows_three : (x y z : Lit) (rows : List (List Lit)) → All (λ (row : List Lit). length row ≡ 3) rows → All (λ (row : List Lit). length row ≡ 3) ((x ∷ y ∷ z ∷ []) ∷ rows)
rows_three x y z rows = All-cons (λ (row : List Lit). length row ≡ 3) (x ∷ y ∷ z ∷ []) rows refl

narrow_by_op : (op : Op) (s t u : Signal) → All (λ (x : Signal). is_constant x.from ≡ false) (ins_of op s t u) → IsNarrow (record { ins = ins_of op s t u; on = true; rows = rows_of op })
narrow_by_op And s t u vary = record { two_inputs = omega arith; four_inputs = omega arith; no_constant = vary; some_row = omega arith; row_widths = rows_two One One [] (All-nil (λ (row : List Lit). length row ≡ 2)) }
narrow_by_op Differ s t u vary = record { two_inputs = omega arith; four_inputs = omega arith; no_constant = vary; some_row = omega arith; row_widths = rows_two One Zero ((Zero ∷ One ∷ []) ∷ []) (rows_two Zero One [] (All-nil (λ (row : List Lit). length row ≡ 2))) }
narrow_by_op Majority s t u vary = record { two_inputs = omega arith; four_inputs = omega arith; no_constant = vary; some_row = omega arith; row_widths = rows_three One One Dash ((One ∷ Dash ∷ One ∷ []) ∷ (Dash ∷ One ∷ One ∷ []) ∷ []) (rows_three One Dash One ((Dash ∷ One ∷ One ∷ []) ∷ []) (rows_three Dash One One [] (All-nil (λ (row : List Lit). length row ≡ 3)))) }
narrow_by_op Choose s t u vary = record { two_inputs = omega arith; four_inputs = omega arith; no_constant = vary; some_row = omega arith; row_widths = rows_three Zero One Dash ((One ∷ Dash ∷ One ∷ []) ∷ []) (rows_three One Dash One [] (All-nil (λ (row : List Lit). length row ≡ 3))) }

pub small_node-narrow : (small : Small) → All (λ (x : Signal). is_constant x.from ≡ false) (small_ins small) → IsNarrow (small_node small)
small_node-narrow small = narrow_by_op small.op small.first small.second small.third

-- ---- the bits of nodes

-- the bit of a node that reads those before it
value_at : (inputs : ℕ) (word bits : List Bool) (nodes : List Node) → ReadBefore inputs (length bits) nodes → (k : ℕ) (node : Node) → slice_get nodes k ≡ Some node → get_or (node_values word bits nodes) (length bits + k) false ≡ node_value word (node_values word bits nodes) node
value_at inputs word bits [] before k node at = absurd cc
value_at inputs word bits (first ∷ rest) before zero node at =
    let own : Bool = node_value word bits first in
    let longer : List Bool = bits ++ own ∷ [] in
    let all : List Bool = node_values word longer rest in
    let mine : Signal = record { from = FromNode (length bits); inverted = false } in
    let count : length longer ≡ length bits + 1 = length_push bits own in
    let there : length bits < length longer = omega (arith, count) in
    let last : get_or all (length bits) false ≡ own = signal_kept inputs word longer rest mine there ∙ get_or_push bits own false (length bits) refl in
    let same : node_value word all first ≡ own = ap (cover_value first.on first.rows) (signals_kept inputs word bits (first ∷ rest) first.ins before.0) in
    ap (λ n. get_or all n false) (add-zero (length bits)) ∙ last ∙ sym same ∙ ap (node_value word all) (same_Some first node at)
value_at inputs word bits (first ∷ rest) before (suc k) node at =
    let own : Bool = node_value word bits first in
    let longer : List Bool = bits ++ own ∷ [] in
    let count : length longer ≡ length bits + 1 = length_push bits own in
    let shift : length bits + suc k ≡ length longer + k = omega (arith, count) in
    ap (λ n. get_or (node_values word longer rest) n false) shift
    ∙ value_at inputs word longer rest (subst (λ n. ReadBefore inputs n rest) (sym count) before.1) k node at

pub bit_of_node : (inputs : ℕ) (word : List Bool) (nodes : List Node) → ReadBefore inputs 0 nodes → (k : ℕ) (node : Node) → slice_get nodes k ≡ Some node → get_or (node_values word [] nodes) k false ≡ node_value word (node_values word [] nodes) node
bit_of_node inputs word nodes before k node at =
    ap (λ n. get_or (node_values word [] nodes) n false) (sym (zero-add k)) ∙ value_at inputs word [] nodes before k node at

-- ---- the bits of small nodes

pub length-bits_of : (word : List Bool) (smalls : List Small) → length (bits_of word smalls) ≡ length smalls
length-bits_of word smalls = omega (arith, length-node_values word [] (map small_node smalls), length-map smalls small_node)
