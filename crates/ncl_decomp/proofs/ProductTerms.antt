-- The terms of products, one product further.
use Rattle.ncl_decomp.proofs.Terms.{AddsTerms, AddsTree, All, All-append, All-head, All-left, All-nil, All-push, All-right, And, AreVarying, Bool, IsNarrow, IsSource, List, Node, ReadBefore, Signal, TellProducts, [], ap, append-nil, append_assoc, arith, false, get_or, is_constant, length, length-append, length-node_values, length_push, list_all, map, map_push, node_values, refl, signal_value, subst, sum_by-take-le, sum_by_more, sum_by_push, sym, take, total, ℕ, ◌++◌, ◌+◌, ◌<◌, ◌∙◌, ◌∷◌, ◌≡◌, ◌≤◌}
use Rattle.ncl_decomp.proofs.Pairs.{and_tree, tree_nodes}
use Rattle.ncl_decomp.proofs.Trees.{IsTreeOver, tree_over}
use Rattle.ncl_decomp.proofs.Later.{node_values-append, signals_kept, all_same, ReadBefore-append, AreVarying-more}

pub AddsTerms-none : (before : List Node) → AddsTerms [] before before []
AddsTerms-none before = record {
  made = [];
  added = sym (append-nil before);
  as_many = refl;
  few = omega arith;
  tell = λ inputs varying. record {
    narrow = All-nil IsNarrow;
    pairs = All-nil (λ (node : Node). length node.ins ≡ 2);
    reads_before = tt;
    varying = record { exist = All-nil (λ (s : Signal). IsSource inputs (length before + 0) s.from); vary = All-nil (λ (s : Signal). is_constant s.from ≡ false) };
    values = λ word bits count. refl;
  };
}

module _ (sum : List (List Signal)) (before nodes : List Node) (terms : List Signal) (adds : AddsTerms sum before nodes terms) (leaves : List Signal) (new : List Node) (root : Signal) (grown : AddsTree And leaves nodes new root) where
  tree : List Node
  tree = grown.0

  count_nodes : length nodes ≡ length before + length adds.made
  count_nodes = ap length adds.added ∙ length-append before adds.made

  tell_more : (inputs : ℕ) → All (AreVarying inputs (length before)) sum → AreVarying inputs (length before) leaves → TellProducts inputs (length before) (sum ++ leaves ∷ []) (adds.made ++ tree) (terms ++ root ∷ [])
  unfolding tree
  tell_more inputs all_varying varying =
      let so_far : TellProducts inputs (length before) sum adds.made terms = adds.tell inputs all_varying in
      let later : AreVarying inputs (length nodes) leaves = AreVarying-more inputs (length before) (length nodes) leaves (omega (arith, count_nodes)) varying in
      let over : IsTreeOver inputs (length nodes) leaves tree root = tree_over inputs And (length nodes) leaves tree root grown.2 later in
      let whole : length (adds.made ++ tree) ≡ length adds.made + length tree = length-append adds.made tree in
      let old_terms : AreVarying inputs (length before + length (adds.made ++ tree)) terms = AreVarying-more inputs (length before + length adds.made) (length before + length (adds.made ++ tree)) terms (omega (arith, whole)) so_far.varying in
      let place : length nodes + length tree ≡ length before + length (adds.made ++ tree) = omega (arith, whole, count_nodes) in
      record {
        narrow = All-append IsNarrow adds.made tree so_far.narrow over.narrow;
        pairs = All-append (λ (node : Node). length node.ins ≡ 2) adds.made tree so_far.pairs over.pairs;
        reads_before = ReadBefore-append inputs (length before) adds.made tree so_far.reads_before (subst (λ n. ReadBefore inputs n tree) count_nodes over.reads_before);
        varying = record {
          exist = All-push (λ (s : Signal). IsSource inputs (length before + length (adds.made ++ tree)) s.from) terms root old_terms.exist (subst (λ n. IsSource inputs n root.from) place over.exists);
          vary = All-push (λ (s : Signal). is_constant s.from ≡ false) terms root old_terms.vary over.varies;
        };
        values = λ word bits count.
            let bits1 : List Bool = node_values word bits adds.made in
            let count1 : length bits1 ≡ length nodes = omega (arith, length-node_values word bits adds.made, count_nodes) in
            let all : node_values word bits (adds.made ++ tree) ≡ node_values word bits1 tree = node_values-append word bits adds.made tree in
            let stays : map (signal_value word (node_values word bits1 tree)) terms ≡ map (signal_value word bits1) terms = signals_kept inputs word bits1 tree terms (subst (λ n. All (λ (s : Signal). IsSource inputs n s.from) terms) (sym (omega (arith, count1, count_nodes))) so_far.varying.exist) in
            let leaf_bits : signal_value word (node_values word bits1 tree) root ≡ list_all (signal_value word bits1) leaves = and_tree inputs word bits1 (length nodes) leaves tree root grown.2 count1 later.exist in
            let here : signal_value word (node_values word bits1 tree) root ≡ list_all (signal_value word bits) leaves = leaf_bits ∙ all_same inputs word bits adds.made leaves (subst (λ n. All (λ (s : Signal). IsSource inputs n s.from) leaves) (sym count) varying.exist) in
            ap (λ b. map (signal_value word b) (terms ++ root ∷ [])) all
            ∙ map_push (signal_value word (node_values word bits1 tree)) terms root
            ∙ (λ i. (stays ∙ so_far.values word bits count) i ++ here i ∷ [])
            ∙ sym (map_push (list_all (signal_value word bits)) sum leaves);
      }

  pub AddsTerms-more : (longer : List Signal) → longer ≡ terms ++ root ∷ [] → AddsTerms (sum ++ leaves ∷ []) before new longer
  unfolding tree
  AddsTerms-more longer pushed =
      let counted : length tree + 1 ≡ length leaves = tree_nodes And (length nodes) leaves tree root grown.2 in
      record {
        made = adds.made ++ tree;
        added = grown.1 ∙ ap (λ front. front ++ tree) adds.added ∙ append_assoc before adds.made tree;
        as_many = omega (arith, adds.as_many, ap length pushed, length_push terms root, length_push sum leaves);
        few = omega (arith, adds.few, counted, length-append adds.made tree, ap length pushed, length_push terms root, sum_by_push (λ (product : List Signal). length product) sum leaves);
        tell = λ inputs varying. subst (λ terms. TellProducts inputs (length before) (sum ++ leaves ∷ []) (adds.made ++ tree) terms) (sym pushed) (tell_more inputs (All-left (AreVarying inputs (length before)) sum (leaves ∷ []) varying) (All-head (AreVarying inputs (length before)) leaves [] (All-right (AreVarying inputs (length before)) sum (leaves ∷ []) varying)));
      }

-- there is room for the tree of the next product
pub terms_room : (sum : List (List Signal)) (i : ℕ) (before nodes : List Node) (terms product : List Signal) → i < length sum → product ≡ get_or sum i product → AddsTerms (take i sum) before nodes terms → length nodes + length product ≤ length before + total sum
terms_room sum i before nodes terms product within is adds =
    let count : length nodes ≡ length before + length adds.made = ap length adds.added ∙ length-append before adds.made in
    let upto : total (take (i + 1) sum) ≡ total (take i sum) + length (get_or sum i product) = sum_by_more (λ (product : List Signal). length product) sum i product within in
    omega (arith, count, adds.few, upto, ap length is, sum_by-take-le (λ (product : List Signal). length product) sum (i + 1))

-- the nodes and terms so far are no more than the signals
pub terms_count : (sum : List (List Signal)) (before nodes : List Node) (terms : List Signal) → AddsTerms sum before nodes terms → length nodes + length terms ≤ length before + total sum
terms_count sum before nodes terms adds =
    omega (arith, ap length adds.added, length-append before adds.made, adds.few)
