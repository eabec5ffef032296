-- What one node becomes: a sum of products, or itself.
use Rattle.ncl_decomp.proofs.Terms.{AddsNode, AddsSum, AddsTerms, AddsTree, All, All-append, All-cons, All-head, All-nil, All-tail, All-weaker, AreVarying, Bool, IsFilled, IsNarrow, IsNode, IsOfTwoOr, IsSource, List, Lit, Node, Or, ReadBefore, Signal, TellProducts, TellSum, [], ap, append_assoc, arith, cond, cost_of_inputs, cost_of_nodes, cover_value, false, get_or_push, inl, inr, is_constant, is_dash, length, length-append, length-node_values, list_all, list_any, literals_of, map, node_signal, node_value, node_values, not, refl, row_matches, signal_value, subst, suc, sum_by-cons, sym, total, true, turned, weight_of_rows, zero, ℕ, ◌&&◌, ◌*◌, ◌++◌, ◌+◌, ◌<◌, ◌^◌, ◌||◌, ◌∙◌, ◌∷◌, ◌≡◌, ◌≤◌}
use Rattle.ncl_decomp.proofs.Pairs.{or_tree, tree_nodes}
use Rattle.ncl_decomp.proofs.Trees.{IsTreeOver, tree_over}
use Rattle.ncl_decomp.proofs.RowLiterals.{turned_value, row_by_literals, varying_literals, few_literals, some_literal}
use Rattle.ncl_decomp.proofs.Later.{node_values-append, ReadBefore-append}

-- ---- what nodes cost

-- each node of two inputs costs 2
pub cost_of_pairs : (nodes : List Node) → All (λ (node : Node). length node.ins ≡ 2) nodes → cost_of_nodes nodes ≡ 2 * length nodes
cost_of_pairs [] pairs = refl
cost_of_pairs (node ∷ nodes) pairs =
    let here : cost_of_inputs (length node.ins) ≡ 2 = ap cost_of_inputs (pairs 0 node (omega arith)) in
    let rest = cost_of_pairs nodes (λ k d within. pairs (suc k) d (omega arith)) in
    omega (arith, sum_by-cons (λ (node : Node). cost_of_inputs (length node.ins)) node nodes, here, rest)

-- a node of two to four inputs costs no more than five times a row
pub cost_of_narrow : (n w : ℕ) → 2 ≤ n → n ≤ 4 → n + 1 ≤ w → cost_of_inputs n ≤ 5 * w
cost_of_narrow zero w two four row = absurd (omega arith)
cost_of_narrow (suc zero) w two four row = absurd (omega arith)
cost_of_narrow (suc (suc zero)) w two four row = omega arith
cost_of_narrow (suc (suc (suc zero))) w two four row = omega arith
cost_of_narrow (suc (suc (suc (suc zero)))) w two four row = omega arith
cost_of_narrow (suc (suc (suc (suc (suc n))))) w two four row = absurd (omega arith)

-- ---- a sum of products

pub list_any-by_map : {X : Type 0} (test : X → Bool) (xs : List X) → list_any test xs ≡ list_any (λ b. b) (map test xs)
list_any-by_map test [] = refl
list_any-by_map test (x ∷ xs) = ap (λ b. test x || b) (list_any-by_map test xs)

cover_by_rows : (on : Bool) (rows : List (List Lit)) (bits : List Bool) → 0 < length rows → cover_value on rows bits ≡ cond on (list_any (row_matches bits) rows) (not (list_any (row_matches bits) rows))
cover_by_rows on [] bits some = absurd (omega arith)
cover_by_rows on (row ∷ rows) bits some = refl

-- the sum of the terms, or its inverse where the rows list the OFF-set
abbrev pub sum_signal : Bool → Signal → Signal
sum_signal on sum = cond on sum (turned sum)

sum_from : (on : Bool) (sum : Signal) → (sum_signal on sum).from ≡ sum.from
sum_from true sum = refl
sum_from false sum = refl

sum_value : (word bits : List Bool) (on : Bool) (sum : Signal) (matches : Bool) → signal_value word bits sum ≡ matches → signal_value word bits (sum_signal on sum) ≡ cond on matches (not matches)
sum_value word bits true sum matches is = is
sum_value word bits false sum matches is = turned_value word bits sum ∙ ap not is

-- a sum of one product of one signal
one_value : (a : Bool) → ((a && true) || false) ≡ a
one_value true = refl
one_value false = refl

one_varying : (inputs count : ℕ) (root : Signal) → IsSource inputs count root.from → is_constant root.from ≡ false → All (AreVarying inputs count) ((root ∷ []) ∷ [])
one_varying inputs count root exists varies =
    All-cons (AreVarying inputs count) (root ∷ []) []
    (record { exist = All-cons (λ (s : Signal). IsSource inputs count s.from) root [] exists (All-nil (λ (s : Signal). IsSource inputs count s.from)); vary = All-cons (λ (s : Signal). is_constant s.from ≡ false) root [] varies (All-nil (λ (s : Signal). is_constant s.from ≡ false)) })
    (All-nil (AreVarying inputs count))

-- the tree of terms is of the sum
pub AddsSum-tree : (sum : List (List Signal)) (before middle new : List Node) (terms : List Signal) (root : Signal) → 0 < length sum → AddsTerms sum before middle terms → AddsTree Or terms middle new root → AddsSum sum before new ((root ∷ []) ∷ [])
AddsSum-tree sum before middle new terms root some adds (tree, added, is_tree) =
    let counted : length tree + 1 ≡ length terms = tree_nodes Or (length middle) terms tree root is_tree in
    let whole : length (adds.made ++ tree) ≡ length adds.made + length tree = length-append adds.made tree in
    let middle_count : length middle ≡ length before + length adds.made = ap length adds.added ∙ length-append before adds.made in
    record {
      made = adds.made ++ tree;
      added = added ∙ ap (λ front. front ++ tree) adds.added ∙ append_assoc before adds.made tree;
      few = omega (arith, adds.few, counted, whole);
      shorter = omega arith;
      some = λ some. omega arith;
      filled = λ filled. All-cons IsFilled (root ∷ []) [] (let there : 0 < 1 = omega arith in there) (All-nil IsFilled);
      tell = λ inputs varying.
          let tell : TellProducts inputs (length before) sum adds.made terms = adds.tell inputs varying in
          let terms_vary : AreVarying inputs (length middle) terms = subst (λ n. AreVarying inputs n terms) (sym middle_count) tell.varying in
          let over : IsTreeOver inputs (length middle) terms tree root = tree_over inputs Or (length middle) terms tree root is_tree terms_vary in
          let place : length middle + length tree ≡ length before + length (adds.made ++ tree) = omega (arith, whole, middle_count) in
          record {
            narrow = All-append IsNarrow adds.made tree tell.narrow over.narrow;
            pairs = All-append (λ (node : Node). length node.ins ≡ 2) adds.made tree tell.pairs over.pairs;
            reads_before = ReadBefore-append inputs (length before) adds.made tree tell.reads_before (subst (λ n. ReadBefore inputs n tree) middle_count over.reads_before);
            varying = subst (λ n. All (AreVarying inputs n) ((root ∷ []) ∷ [])) place (one_varying inputs (length middle + length tree) root over.exists over.varies);
            values = λ word bits count.
                let bits1 : List Bool = node_values word bits adds.made in
                let count1 : length bits1 ≡ length middle = omega (arith, length-node_values word bits adds.made, middle_count) in
                let by_terms : signal_value word (node_values word bits1 tree) root ≡ list_any (signal_value word bits1) terms = or_tree inputs word bits1 (length middle) terms tree root is_tree count1 terms_vary.exist in
                let by_sum : list_any (signal_value word bits1) terms ≡ list_any (list_all (signal_value word bits)) sum =
                list_any-by_map (signal_value word bits1) terms ∙ ap (list_any (λ b. b)) (tell.values word bits count) ∙ sym (list_any-by_map (list_all (signal_value word bits)) sum) in
                ap (λ b. list_any (list_all (signal_value word b)) ((root ∷ []) ∷ [])) (node_values-append word bits adds.made tree)
                ∙ one_value (signal_value word (node_values word bits1 tree) root) ∙ by_terms ∙ by_sum;
          };
    }

-- ---- a cover

rows_total : (ins : List Signal) (rows : List (List Lit)) → total (map (literals_of ins) rows) ≤ weight_of_rows rows
rows_total ins [] = omega arith
rows_total ins (row ∷ rows) =
    omega (arith, rows_total ins rows, few_literals ins row, sum_by-cons (λ (product : List Signal). length product) (literals_of ins row) (map (literals_of ins) rows), sum_by-cons (λ (row : List Lit). 1 + length row) row rows)

rows_varying : (inputs count : ℕ) (ins : List Signal) (rows : List (List Lit)) → AreVarying inputs count ins → All (AreVarying inputs count) (map (literals_of ins) rows)
rows_varying inputs count ins [] varying = All-nil (AreVarying inputs count)
rows_varying inputs count ins (row ∷ rows) varying =
    All-cons (AreVarying inputs count) (literals_of ins row) (map (literals_of ins) rows) (varying_literals inputs count ins row varying) (rows_varying inputs count ins rows varying)

rows_value : (word bits : List Bool) (ins : List Signal) (rows : List (List Lit)) → list_any (list_all (signal_value word bits)) (map (literals_of ins) rows) ≡ list_any (row_matches (map (signal_value word bits) ins)) rows
rows_value word bits ins [] = refl
rows_value word bits ins (row ∷ rows) =
    let first = row_by_literals word bits ins row in
    let rest = rows_value word bits ins rows in
    λ i. first i || rest i

pub rows_filled : (ins : List Signal) (rows : List (List Lit)) → All (λ row. length row ≡ length ins) rows → All (λ row. list_all is_dash row ≡ false) rows → All IsFilled (map (literals_of ins) rows)
rows_filled ins [] widths idle = All-nil IsFilled
rows_filled ins (row ∷ rows) widths idle =
    All-cons IsFilled (literals_of ins row) (map (literals_of ins) rows)
    (some_literal ins row (All-head (λ (row : List Lit). length row ≡ length ins) row rows widths) (All-head (λ (row : List Lit). list_all is_dash row ≡ false) row rows idle))
    (rows_filled ins rows (All-tail (λ (row : List Lit). length row ≡ length ins) row rows widths) (All-tail (λ (row : List Lit). list_all is_dash row ≡ false) row rows idle))

pub rows_count : (ins : List Signal) (rows : List (List Lit)) → length (map (literals_of ins) rows) ≡ length rows
rows_count ins [] = refl
rows_count ins (row ∷ rows) = omega (arith, rows_count ins rows)

-- there is room for the nodes of a sum, whose products are those of rows
pub rows_room : (ins : List Signal) (rows : List (List Lit)) (before : List Node) → length before + weight_of_rows rows < 2 ^ 32 → length before + total (map (literals_of ins) rows) < 2 ^ 32
rows_room ins rows before few = omega (arith, few, rows_total ins rows)

pub sum_room : (sum new : List (List Signal)) (before after : List Node) → AddsSum sum before after new → length after + total new ≤ length before + total sum
sum_room sum new before after adds = omega (arith, ap length adds.added, length-append before adds.made, adds.few)

pub AddsNode-sum : (ins : List Signal) (node : Node) (before new : List Node) (sum : Signal) → 0 < length node.rows → AddsSum (map (literals_of ins) node.rows) before new ((sum ∷ []) ∷ []) → AddsNode ins node before new (sum_signal node.on sum)
AddsNode-sum ins node before new sum some adds =
    let few : length adds.made ≤ weight_of_rows node.rows = omega (arith, adds.few, rows_total ins node.rows) in
    record {
      made = adds.made;
      added = adds.added;
      few = few;
      becomes = λ inputs varying.
          let tell : TellSum inputs (length before) (map (literals_of ins) node.rows) adds.made ((sum ∷ []) ∷ []) = adds.tell inputs (rows_varying inputs (length before) ins node.rows varying) in
          let here : AreVarying inputs (length before + length adds.made) (sum ∷ []) = All-head (AreVarying inputs (length before + length adds.made)) (sum ∷ []) [] tell.varying in
          record {
            narrow = tell.narrow;
            kinds = All-weaker (λ (node : Node). length node.ins ≡ 2) (IsOfTwoOr (node ∷ [])) (λ made two. inl two) adds.made tell.pairs;
            reads_before = tell.reads_before;
            exists = subst (IsSource inputs (length before + length adds.made)) (sym (sum_from node.on sum)) (All-head (λ (s : Signal). IsSource inputs (length before + length adds.made) s.from) sum [] here.exist);
            varies = ap is_constant (sum_from node.on sum) ∙ All-head (λ (s : Signal). is_constant s.from ≡ false) sum [] here.vary;
            value = λ word bits count.
                let in_bits : List Bool = map (signal_value word bits) ins in
                sum_value word (node_values word bits adds.made) node.on sum (list_any (row_matches in_bits) node.rows)
                (sym (one_value (signal_value word (node_values word bits adds.made) sum)) ∙ tell.values word bits count ∙ rows_value word bits ins node.rows)
                ∙ sym (cover_by_rows node.on node.rows in_bits some);
            cost = omega (arith, cost_of_pairs adds.made tell.pairs, few);
          };
    }

-- ---- a node as it is

weight_of_some : (width : ℕ) (rows : List (List Lit)) → 0 < length rows → All (λ row. length row ≡ width) rows → width + 1 ≤ weight_of_rows rows
weight_of_some width [] some widths = absurd (omega arith)
weight_of_some width (row ∷ rows) some widths =
    omega (arith, sum_by-cons (λ (row : List Lit). 1 + length row) row rows, All-head (λ (row : List Lit). length row ≡ width) row rows widths)

IsNarrow-kept : (inputs count : ℕ) (ins : List Signal) (node : Node) → IsNode node → length ins ≡ length node.ins → length node.ins ≤ 4 → AreVarying inputs count ins → IsNarrow (record { ins = ins; on = node.on; rows = node.rows })
IsNarrow-kept inputs count ins node is lengths narrow varying = record {
  two_inputs = omega (arith, is.two_inputs);
  four_inputs = omega arith;
  no_constant = varying.vary;
  some_row = is.some_row;
  row_widths = subst (λ n. All (λ row. length row ≡ n) node.rows) (sym lengths) is.row_widths;
}

pub AddsNode-kept : (ins : List Signal) (node kept : Node) (before new : List Node) → IsNode node → length ins ≡ length node.ins → length node.ins ≤ 4 → kept ≡ record { ins = ins; on = node.on; rows = node.rows } → new ≡ before ++ kept ∷ [] → AddsNode ins node before new (node_signal (length before))
AddsNode-kept ins node kept before new is lengths narrow same pushed =
    let copy : Node = record { ins = ins; on = node.on; rows = node.rows } in
    let weighs : length node.ins + 1 ≤ weight_of_rows node.rows = weight_of_some (length node.ins) node.rows is.some_row is.row_widths in
    record {
      made = copy ∷ [];
      added = pushed ∙ (λ i. before ++ same i ∷ []);
      few = omega (arith, weighs);
      becomes = λ inputs varying.
          let reads : All (λ (s : Signal). IsSource inputs (length before) s.from) copy.ins = varying.exist in
          record {
            narrow = All-cons IsNarrow copy [] (IsNarrow-kept inputs (length before) ins node is lengths narrow varying) (All-nil IsNarrow);
            kinds = All-cons (IsOfTwoOr (node ∷ [])) copy [] (inr (node, (0, omega arith, refl), record { inputs = lengths; on = refl; rows = refl })) (All-nil (IsOfTwoOr (node ∷ [])));
            reads_before = (reads, tt);
            exists = let last : length before < length before + 1 = omega arith in last;
            varies = refl;
            value = λ word bits count. get_or_push bits (node_value word bits copy) false (length before) count;
            cost = omega (arith, cost_of_narrow (length node.ins) (weight_of_rows node.rows) is.two_inputs narrow weighs, ap cost_of_inputs lengths, sum_by-cons (λ (node : Node). cost_of_inputs (length node.ins)) copy []);
          };
    }
