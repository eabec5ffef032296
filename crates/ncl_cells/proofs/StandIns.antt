-- Nodes that take the places of others have the same bits.
use Rattle.ncl_cells.proofs.Terms.{Agrees, AgreesAt, All, All-at, All-head, All-nil, All-push, All-tail, AreRecast, Bool, Const, FromNode, Input, IsInOrder, IsNarrow, IsRebuiltOf, IsSource, IsSplit, Leaves, List, MayStand, Network, Node, ReadBefore-push, Signal, SignalSource, Some, [], answer_of, ap, arith, at_each_word, cases_lt, cond, cover_value, false, get_or, inl, inr, leaf_bits, length, map, node_reads, node_values, not, push_cases, refl, signal_value, slice_get, slice_get-get_or, slice_get_within, source_value, subst, suc, sym, word_of, zero, zero-add, ℕ, ◌++◌, ◌<◌, ◌∙◌, ◌∷◌, ◌≡◌, ◌≤◌}
use Rattle.ncl_plans.proofs.Smalls.{bit_of_node}
use Rattle.ncl_plans.proofs.Cones.{respected}
use Rattle.ncl_cells.proofs.Remade.{IsInOrder-narrow}

-- what holds at the word of each number holds
pub Agrees-all : (nodes : List Node) (k : ℕ) (leaves : Leaves) (node : Node) → ((number : ℕ) → number < 16 → AgreesAt nodes k leaves node (word_of 4 number)) → Agrees nodes k node
Agrees-all nodes k leaves node at value respects =
    at_each_word 4 (AgreesAt nodes k leaves node) at (leaf_bits value leaves) refl value respects refl

-- a node may stay where it stands
pub MayStand-itself : (network : Network) (k : ℕ) (node : Node) → IsSplit network → slice_get network.nodes k ≡ Some node → MayStand network k node
MayStand-itself network k node split at = record {
  reads = record {
    narrow = All-at IsNarrow network.nodes split.nodes k node at;
    before = node_reads network k node (IsInOrder-narrow network split) at;
  };
  agrees = λ value respects. respects k node at;
}

-- ---- one node further

module _ (network : Network) where
  pub AreRecast-none : AreRecast network []
  AreRecast-none = record {
    narrow = All-nil IsNarrow;
    reads_before = tt;
    agree = λ k node at. absurd (omega (arith, slice_get_within [] k node at));
  }

  pub AreRecast-push : (nodes longer : List Node) (node : Node) → AreRecast network nodes → MayStand network (length nodes) node → longer ≡ nodes ++ node ∷ [] → AreRecast network longer
  AreRecast-push nodes longer node recast may pushed =
      subst (AreRecast network) (sym pushed) (record {
        narrow = All-push IsNarrow nodes node recast.narrow may.reads.narrow;
        reads_before = ReadBefore-push network.inputs 0 nodes node recast.reads_before (subst (λ n. All (λ (s : Signal). IsSource network.inputs n s.from) node.ins) (sym (zero-add (length nodes))) may.reads.before);
        agree = λ k other at.
            elim (push_cases nodes node k other at) [
              | inl before ↦ recast.agree k other before
              | inr (last, same) ↦ subst (λ n. Agrees network.nodes n other) (sym last) (subst (Agrees network.nodes (length nodes)) same may.agrees)
            ];
      })

-- ---- all of them

module _ (network : Network) (split : IsSplit network) (nodes : List Node) (recast : AreRecast network nodes) (as_many : length nodes ≡ length network.nodes) where
  whole : Network
  whole = record { inputs = network.inputs; nodes = nodes; outputs = network.outputs }

  ordered : IsInOrder whole
  unfolding whole
  ordered = record {
    reads_before = recast.reads_before;
    outputs_exist = subst (λ n. All (λ (s : Signal). IsSource network.inputs n s.from) network.outputs) (sym as_many) split.outputs_exist;
    few = omega (arith, as_many, (IsInOrder-narrow network split).few);
  }

  module _ (word : List Bool) where
    old : List Bool
    old = node_values word [] network.nodes

    now : List Bool
    now = node_values word [] nodes

    -- the first nodes have the same bits
    SameBelow : ℕ → Type 0
    SameBelow n = (k : ℕ) → k < n → get_or now k false ≡ get_or old k false

    same_source : (n : ℕ) → SameBelow n → (from : SignalSource) → IsSource network.inputs n from → source_value word now from ≡ source_value word old from
    unfolding SameBelow
    same_source n same (Input i) there = refl
    same_source n same (FromNode k) there = same k there
    same_source n same (Const bit) there = refl

    same_signals : (n : ℕ) → SameBelow n → (signals : List Signal) → All (λ (s : Signal). IsSource network.inputs n s.from) signals → map (signal_value word now) signals ≡ map (signal_value word old) signals
    same_signals n same [] there = refl
    same_signals n same (s ∷ signals) there =
        let P = λ (s : Signal). IsSource network.inputs n s.from in
        let first : source_value word now s.from ≡ source_value word old s.from = same_source n same s.from (All-head P s signals there) in
        let rest = same_signals n same signals (All-tail P s signals there) in
        λ i. cond s.inverted (not (first i)) (first i) ∷ rest i

    -- so has the next one
    same_next : (n : ℕ) (node : Node) → SameBelow n → slice_get nodes n ≡ Some node → get_or now n false ≡ get_or old n false
    unfolding whole now old
    same_next n node same at =
        bit_of_node network.inputs word nodes recast.reads_before n node at
        ∙ ap (cover_value node.on node.rows) (same_signals n same node.ins (node_reads whole n node ordered at))
        ∙ sym (recast.agree n node at (source_value word old) (respected network word split.reads_before))

    same_below : (n : ℕ) → n ≤ length nodes → SameBelow n
    unfolding SameBelow
    same_below zero less k under = absurd (omega (arith, under))
    same_below (suc n) less k under =
        let before : SameBelow n = same_below n (omega (arith, less)) in
        elim (cases_lt k n) [
          | inl lower ↦ before k lower
          | inr upper ↦
              let last : k ≡ n = omega (arith, under, upper) in
              let inside : n < length nodes = omega (arith, less) in
              let none : Node = record { ins = []; on = false; rows = [] } in
              subst (λ j. get_or now j false ≡ get_or old j false) (sym last) (same_next n (get_or nodes n none) before (slice_get-get_or nodes n none inside))
        ]

    same_answer : answer_of whole word ≡ answer_of network word
    unfolding whole now old
    same_answer = same_signals (length nodes) (same_below (length nodes) (omega arith)) network.outputs (subst (λ n. All (λ (s : Signal). IsSource network.inputs n s.from) network.outputs) (sym as_many) split.outputs_exist)

  pub IsRebuilt-recast : IsRebuiltOf network (record { inputs = network.inputs; nodes = nodes; outputs = network.outputs })
  unfolding whole
  IsRebuilt-recast = record {
    narrow = recast.narrow;
    ordered = ordered;
    inputs = refl;
    outputs = refl;
    same = same_answer;
  }
