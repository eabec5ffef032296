-- Nodes in another order have the same bits.
use Rattle.ncl_cells.proofs.Terms.{All, All-at, All-cons, All-head, All-nil, All-push, All-tail, AllZip, AreMoved, Bool, Const, FromNode, Input, IsMoved, IsMovedSource, IsNarrow, IsRebuiltOf, IsSource, IsSplit, List, Lit, Network, Node, None, Option, ReadBefore-push, Signal, SignalSource, Some, [], ap, arith, bit_at, cases_eq, cond, cover_value, false, get_or, get_or-set_other, get_or-set_same, get_or_append_left, get_or_push, inl, inr, is_constant, length, length-node_values, length-set, length_push, map, node_reads, node_value, node_values, node_values-push, not, refl, same_Some, signal_value, slice_get, slice_get_within, slice_set, source_value, subst, suc, sym, zero-add, ℕ, ◌++◌, ◌+◌, ◌<◌, ◌^◌, ◌∙◌, ◌∷◌, ◌≡◌, ◌⊎◌}
use Rattle.ncl_plans.proofs.Smalls.{bit_of_node}
use Rattle.ncl_cells.proofs.Remade.{IsInOrder-narrow}

-- ---- what is moved

module _ (network : Network) (nodes : List Node) (places : List (Option ℕ)) (moved : AreMoved network nodes places) where
  source_same : (word : List Bool) (from found : SignalSource) → IsMovedSource places from found → source_value word (node_values word [] nodes) found ≡ source_value word (node_values word [] network.nodes) from
  source_same word (Input i) found is = ap (source_value word (node_values word [] nodes)) is
  source_same word (FromNode k) found (j, at, is) = ap (source_value word (node_values word [] nodes)) is ∙ moved.same word k j at
  source_same word (Const bit) found is = ap (source_value word (node_values word [] nodes)) is

  source_there : (count : ℕ) (from found : SignalSource) → IsMovedSource places from found → IsSource network.inputs count from → IsSource network.inputs (length nodes) found
  source_there count (Input i) found is there = subst (IsSource network.inputs (length nodes)) (sym is) there
  source_there count (FromNode k) found (j, at, is) there =
      subst (IsSource network.inputs (length nodes)) (sym is) (moved.inside k j at)
  source_there count (Const bit) found is there = subst (IsSource network.inputs (length nodes)) (sym is) tt

  source_varies : (from found : SignalSource) → IsMovedSource places from found → is_constant found ≡ is_constant from
  source_varies (Input i) found is = ap is_constant is
  source_varies (FromNode k) found (j, at, is) = ap is_constant is
  source_varies (Const bit) found is = ap is_constant is

  signals_same : (word : List Bool) (signals found : List Signal) → AllZip (IsMoved places) signals found → map (signal_value word (node_values word [] nodes)) found ≡ map (signal_value word (node_values word [] network.nodes)) signals
  signals_same word [] [] are = refl
  signals_same word [] (f ∷ found) are = absurd are
  signals_same word (s ∷ signals) [] are = absurd are
  signals_same word (s ∷ signals) (f ∷ found) (is, rest) =
      let first = source_same word s.from f.from is.source in
      let others = signals_same word signals found rest in
      λ i. cond (is.inverted i) (not (first i)) (first i) ∷ others i

  signals_there : (count : ℕ) (signals found : List Signal) → AllZip (IsMoved places) signals found → All (λ (s : Signal). IsSource network.inputs count s.from) signals → All (λ (s : Signal). IsSource network.inputs (length nodes) s.from) found
  signals_there count [] [] are there = All-nil (λ (s : Signal). IsSource network.inputs (length nodes) s.from)
  signals_there count [] (f ∷ found) are there = absurd are
  signals_there count (s ∷ signals) [] are there = absurd are
  signals_there count (s ∷ signals) (f ∷ found) (is, rest) there =
      let P = λ (s : Signal). IsSource network.inputs count s.from in
      All-cons (λ (s : Signal). IsSource network.inputs (length nodes) s.from) f found
      (source_there count s.from f.from is.source (All-head P s signals there))
      (signals_there count signals found rest (All-tail P s signals there))

  signals_vary : (signals found : List Signal) → AllZip (IsMoved places) signals found → All (λ (s : Signal). is_constant s.from ≡ false) signals → All (λ (s : Signal). is_constant s.from ≡ false) found
  signals_vary [] [] are vary = All-nil (λ (s : Signal). is_constant s.from ≡ false)
  signals_vary [] (f ∷ found) are vary = absurd are
  signals_vary (s ∷ signals) [] are vary = absurd are
  signals_vary (s ∷ signals) (f ∷ found) (is, rest) vary =
      let P = λ (s : Signal). is_constant s.from ≡ false in
      All-cons P f found (source_varies s.from f.from is.source ∙ All-head P s signals vary) (signals_vary signals found rest (All-tail P s signals vary))

  as_long : (signals found : List Signal) → AllZip (IsMoved places) signals found → length found ≡ length signals
  as_long [] [] are = refl
  as_long [] (f ∷ found) are = absurd are
  as_long (s ∷ signals) [] are = absurd are
  as_long (s ∷ signals) (f ∷ found) (is, rest) = ap suc (as_long signals found rest)

  -- ---- one node further

  module _ (split : IsSplit network) (k : ℕ) (node : Node) (at : slice_get network.nodes k ≡ Some node) (ins : List Signal) (are : AllZip (IsMoved places) node.ins ins) where
    abbrev made : Node
    made = record { ins = ins; on = node.on; rows = node.rows }

    narrow_made : IsNarrow made
    narrow_made =
        let old : IsNarrow node = All-at IsNarrow network.nodes split.nodes k node at in
        let long : length ins ≡ length node.ins = as_long node.ins ins are in
        record {
          two_inputs = omega (arith, long, old.two_inputs);
          four_inputs = omega (arith, long, old.four_inputs);
          no_constant = signals_vary node.ins ins are old.no_constant;
          some_row = old.some_row;
          row_widths = subst (λ n. All (λ (row : List Lit). length row ≡ n) node.rows) (sym long) old.row_widths;
        }

    -- its bit
    bit_made : (word : List Bool) → get_or (node_values word [] (nodes ++ made ∷ [])) (length nodes) false ≡ bit_at network word k
    bit_made word =
        let bits : List Bool = node_values word [] nodes in
        ap (λ all. get_or all (length nodes) false) (node_values-push word [] nodes made)
        ∙ get_or_push bits (node_value word bits made) false (length nodes) (omega (arith, length-node_values word [] nodes))
        ∙ ap (cover_value node.on node.rows) (signals_same word node.ins ins are)
        ∙ sym (bit_of_node network.inputs word network.nodes split.reads_before k node at)

    -- those of the others
    bit_kept : (word : List Bool) (j : ℕ) → j < length nodes → get_or (node_values word [] (nodes ++ made ∷ [])) j false ≡ get_or (node_values word [] nodes) j false
    bit_kept word j inside =
        let bits : List Bool = node_values word [] nodes in
        ap (λ all. get_or all j false) (node_values-push word [] nodes made)
        ∙ get_or_append_left bits (node_value word bits made ∷ []) false j (omega (arith, inside, length-node_values word [] nodes))

    -- where a node is now: it was made last, or was there
    place_cases : (q j : ℕ) → get_or (slice_set places k (Some (length nodes))) q None ≡ Some j → ((q ≡ k) × (j ≡ length nodes)) ⊎ (get_or places q None ≡ Some j)
    place_cases q j now =
        let within : k < length places = omega (arith, moved.as_many, slice_get_within network.nodes k node at) in
        elim (cases_eq q k) [
          | inl same ↦
              inl (same, sym (same_Some (length nodes) j (sym (get_or-set_same places k (Some (length nodes)) None within) ∙ ap (λ p. get_or (slice_set places k (Some (length nodes))) p None) (sym same) ∙ now)))
          | inr differs ↦ inr (sym (get_or-set_other places k q (Some (length nodes)) None differs) ∙ now)
        ]

    pub AreMoved-push : (longer : List Node) (more : List (Option ℕ)) → length nodes + 1 < 2 ^ 32 → longer ≡ nodes ++ made ∷ [] → more ≡ slice_set places k (Some (length nodes)) → AreMoved network longer more
    AreMoved-push longer more room pushed put =
        let reads : All (λ (s : Signal). IsSource network.inputs (length nodes) s.from) ins = signals_there k node.ins ins are (node_reads network k node (IsInOrder-narrow network split) at) in
        let long : length (nodes ++ made ∷ []) ≡ length nodes + 1 = length_push nodes made in
        subst (λ all. AreMoved network all more) (sym pushed) (subst (AreMoved network (nodes ++ made ∷ [])) (sym put) (record {
          narrow = All-push IsNarrow nodes made moved.narrow narrow_made;
          reads_before = ReadBefore-push network.inputs 0 nodes made moved.reads_before (subst (λ n. All (λ (s : Signal). IsSource network.inputs n s.from) ins) (sym (zero-add (length nodes))) reads);
          few = omega (arith, long, room);
          as_many = length-set places k (Some (length nodes)) ∙ moved.as_many;
          inside = λ q j now.
              elim (place_cases q j now) [
                | inl (same, last) ↦ omega (arith, long, last)
                | inr before ↦ omega (arith, long, moved.inside q j before)
              ];
          same = λ word q j now.
              elim (place_cases q j now) [
                | inl (same, last) ↦
                    ap (λ p. get_or (node_values word [] (nodes ++ made ∷ [])) p false) last ∙ bit_made word ∙ ap (bit_at network word) (sym same)
                | inr before ↦ bit_kept word j (moved.inside q j before) ∙ moved.same word q j before
              ];
        }))

  -- ---- all of them

  pub IsRebuilt-moved : (outputs : List Signal) → IsSplit network → AllZip (IsMoved places) network.outputs outputs → IsRebuiltOf network (record { inputs = network.inputs; nodes = nodes; outputs = outputs })
  IsRebuilt-moved outputs split are = record {
    narrow = moved.narrow;
    ordered = record {
      reads_before = moved.reads_before;
      outputs_exist = signals_there (length network.nodes) network.outputs outputs are split.outputs_exist;
      few = moved.few;
    };
    inputs = refl;
    outputs = as_long network.outputs outputs are;
    same = λ word. signals_same word network.outputs outputs are;
  }
