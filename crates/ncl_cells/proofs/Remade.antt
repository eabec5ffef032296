-- The nodes of a network as signals of small nodes, one node further.
use Rattle.ncl_cells.proofs.Terms.{Adds, All, All-head, All-nil, All-push, All-tail, AreImagesOf, AreRemade, Bool, Computes, IsImageOf, IsInOrder, IsNarrow, IsNarrow-cost, IsPool, IsRebuiltOf, IsSource, IsSplit, Leaves, List, Network, Node, Plan, ReadBefore, Signal, Small, Some, [], ap, arith, bit_at, bits_of, cond, cost_of_inputs, cost_of_nodes, get_or, get_or_from_slice_get, inl, inr, leaf_signals, length, length-map, map, map_push, node_values, not, plain, plan_value, refl, same_Some, signal_value, slice_get, slice_get_within, small_node, source_value, subst, suc, sum_by-cons, sym, turned_by, zero, ℕ, ⊎_elim, ◌++◌, ◌<◌, ◌^◌, ◌∙◌, ◌∷◌, ◌≡◌, ◌≤◌, ◌⊎◌}
use Rattle.ncl_plans.proofs.Forms.{turned_by-value}
use Rattle.ncl_plans.proofs.Pools.{IsPool-none, Adds-exists, Adds-keeps}
use Rattle.ncl_plans.proofs.Cones.{respected}

-- ---- the images of signals

pub image_turned : (inputs : ℕ) (images : List Signal) (signal source : Signal) → IsImageOf inputs images (plain signal.from) source → IsImageOf inputs images signal (turned_by signal.inverted source)
image_turned inputs images signal source is = record {
  value = λ word nodes old have. turned_by-value word nodes signal.inverted source ∙ ap (λ b. cond signal.inverted (not b) b) (is.value word nodes old have);
  exists = is.exists;
}

pub AreImagesOf-push : (inputs : ℕ) (images signals found : List Signal) (signal image : Signal) (longer : List Signal) → AreImagesOf inputs images signals found → IsImageOf inputs images signal image → longer ≡ found ++ image ∷ [] → AreImagesOf inputs images (signals ++ signal ∷ []) longer
AreImagesOf-push inputs images signals found signal image longer are is pushed =
    subst (AreImagesOf inputs images (signals ++ signal ∷ [])) (sym pushed) (record {
      values = λ word nodes old have.
          map_push (signal_value word nodes) found image
          ∙ (λ i. are.values word nodes old have i ++ is.value word nodes old have i ∷ [])
          ∙ sym (map_push (signal_value word old) signals signal);
      exist = λ count exist. All-push (λ (image : Signal). IsSource inputs count image.from) found image (are.exist count exist) (is.exists count exist);
    })

-- ---- one node further

module _ (network : Network) (ordered : IsInOrder network) where
  pub AreRemade-none : AreRemade network [] []
  AreRemade-none = record {
    fine = IsPool-none network.inputs;
    exist = All-nil (λ (image : Signal). IsSource network.inputs 0 image.from);
    values = λ word k signal at. absurd (omega (arith, slice_get_within [] k signal at));
  }

  module _ (smalls : List Small) (images : List Signal) (remade : AreRemade network smalls images) where
    -- a plan that computes a node gives its bit over the images of the leaves
    pub Adds-node : (k : ℕ) (leaves : Leaves) (plan : Plan) (found : List Signal) (next : List Small) (signal : Signal) → Computes network.nodes k leaves plan → AreImagesOf network.inputs images (leaf_signals leaves) found → ((inputs : ℕ) → IsPool inputs smalls → All (λ (leaf : Signal). IsSource inputs (length smalls) leaf.from) found → Adds inputs smalls next (λ word nodes. plan_value plan (map (signal_value word nodes) found)) signal) → Adds network.inputs smalls next (λ word _. bit_at network word k) signal
    Adds-node k leaves plan found next signal computes are applied =
        let adds : Adds network.inputs smalls next (λ word nodes. plan_value plan (map (signal_value word nodes) found)) signal = applied network.inputs remade.fine (are.exist (length smalls) remade.exist) in
        record {
          made = adds.made;
          added = adds.added;
          fine = adds.fine;
          exists = adds.exists;
          gives = λ word.
              let old : List Bool = node_values word [] network.nodes in
              adds.gives word
              ∙ ap (plan_value plan) (are.values word (bits_of word smalls) old (remade.values word))
              ∙ sym (computes (source_value word old) (respected network word ordered.reads_before));
        }

    pub AreRemade-more : (next : List Small) (signal : Signal) (longer : List Signal) → Adds network.inputs smalls next (λ word _. bit_at network word (length images)) signal → longer ≡ images ++ signal ∷ [] → AreRemade network next longer
    AreRemade-more next signal longer adds pushed =
        let value = λ (word nodes : List Bool). bit_at network word (length images) in
        subst (AreRemade network next) (sym pushed) (record {
          fine = adds.fine;
          exist = All-push (λ (image : Signal). IsSource network.inputs (length next) image.from) images signal (λ i d within. Adds-exists network.inputs smalls next value signal adds (get_or images i d) (remade.exist i d within)) adds.exists;
          values = λ word k image at.
              ⊎_elim
              (λ (before : slice_get images k ≡ Some image).
              Adds-keeps network.inputs smalls next value signal adds word image (in_images k image before) ∙ remade.values word k image before)
              (λ (last : (k ≡ length images) × (image ≡ signal)).
              ap (signal_value word (bits_of word next)) last.1 ∙ adds.gives word ∙ ap (bit_at network word) (sym last.0))
              (pushed_at images k image signal at);
        })
      where
        in_images : (k : ℕ) (image : Signal) → slice_get images k ≡ Some image → IsSource network.inputs (length smalls) image.from
        in_images k image at =
            subst (λ (s : Signal). IsSource network.inputs (length smalls) s.from) (get_or_from_slice_get images k image image at) (remade.exist k image (slice_get_within images k image at))

        pushed_at : (images : List Signal) (k : ℕ) (image signal : Signal) → slice_get (images ++ signal ∷ []) k ≡ Some image → (slice_get images k ≡ Some image) ⊎ ((k ≡ length images) × (image ≡ signal))
        pushed_at [] zero image signal at = inr (refl, sym (same_Some signal image at))
        pushed_at [] (suc k) image signal at = absurd cc
        pushed_at (first ∷ images) zero image signal at = inl at
        pushed_at (first ∷ images) (suc k) image signal at =
            ⊎_elim (λ (before : slice_get images k ≡ Some image). inl before) (λ (last : (k ≡ length images) × (image ≡ signal)). inr (omega (arith, last.0), last.1)) (pushed_at images k image signal at)

    -- ---- the whole

    pub rebuilt : (nodes : List Node) (outputs : List Signal) → length smalls < 2 ^ 32 → nodes ≡ map small_node smalls → AreImagesOf network.inputs images network.outputs outputs → IsRebuiltOf network (record { inputs = network.inputs; nodes = nodes; outputs = outputs })
    rebuilt nodes outputs few same are =
        let count : length nodes ≡ length smalls = omega (arith, ap length same, length-map smalls small_node) in
        record {
          narrow = subst (All IsNarrow) (sym same) remade.fine.narrow;
          ordered = record {
            reads_before = subst (ReadBefore network.inputs 0) (sym same) remade.fine.reads_before;
            outputs_exist = subst (λ n. All (λ (s : Signal). IsSource network.inputs n s.from) outputs) (sym count) (are.exist (length smalls) remade.exist);
            few = omega (arith, count);
          };
          inputs = refl;
          outputs = same_length outputs network.outputs (λ word. are.values word (bits_of word smalls) (node_values word [] network.nodes) (remade.values word));
          same = λ word.
              ap (λ all. map (signal_value word (node_values word [] all)) outputs) same
              ∙ are.values word (bits_of word smalls) (node_values word [] network.nodes) (remade.values word);
        }
      where
        same_length : (xs ys : List Signal) → ((word : List Bool) → map (signal_value word (bits_of word smalls)) xs ≡ map (signal_value word (node_values word [] network.nodes)) ys) → length xs ≡ length ys
        same_length xs ys equal =
            omega (arith, length-map xs (signal_value [] (bits_of [] smalls)), length-map ys (signal_value [] (node_values [] [] network.nodes)), ap length (equal []))

-- ---- a split network is in order

pub IsInOrder-narrow : (network : Network) → IsSplit network → IsInOrder network
IsInOrder-narrow network is = record {
  reads_before = is.reads_before;
  outputs_exist = is.outputs_exist;
  few = let count = few_nodes network.nodes is.nodes in let cheap = is.cheap in omega (arith, count, cheap);
}
  where
    few_nodes : (nodes : List Node) → All IsNarrow nodes → length nodes ≤ cost_of_nodes nodes
    few_nodes [] all = omega arith
    few_nodes (node ∷ nodes) all =
        let here : IsNarrow node = All-head IsNarrow node nodes all in
        let costs = IsNarrow-cost node here in
        let rest = few_nodes nodes (All-tail IsNarrow node nodes all) in
        omega (arith, costs, rest, sum_by-cons (λ (node : Node). cost_of_inputs (length node.ins)) node nodes)
