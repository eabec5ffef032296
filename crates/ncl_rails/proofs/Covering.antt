-- Where each source is held, an output waits for it at each word.
use Rattle.ncl_rails.proofs.Terms.{All, All-at, Bool, FromNode, Input, IsAwaited, IsCovered, IsSource, List, Network, Node, Reaches, ReadBefore, Signal, Some, [], arith, inl, inr, length, slice_get, slice_get_within, subst, suc, value_at, waiter, zero, ℕ, ◌+◌, ◌<◌, ◌∷◌, ◌≡◌, ◌≤◌}
use Rattle.ncl_rails.specs.Waiting.{output}

-- what a node reads is there before it, and so among all
pub reads_before_at : (inputs place : ℕ) (nodes : List Node) → ReadBefore inputs place nodes → (k : ℕ) (node : Node) → slice_get nodes k ≡ Some node → All (λ (signal : Signal). IsSource inputs (place + k) signal.from) node.ins
reads_before_at inputs place [] before k node at = absurd cc
reads_before_at inputs place (first ∷ nodes) before zero node at =
    let same : first ≡ node = cc in
    let here : place ≡ place + 0 = omega arith in
    subst (λ (n : Node). All (λ (signal : Signal). IsSource inputs (place + 0) signal.from) n.ins) same
    (subst (λ n. All (λ (signal : Signal). IsSource inputs n signal.from) first.ins) here before.0)
reads_before_at inputs place (first ∷ nodes) before (suc k) node at =
    let count : (place + 1) + k ≡ place + suc k = omega arith in
    subst (λ n. All (λ (signal : Signal). IsSource inputs n signal.from) node.ins) count (reads_before_at inputs (place + 1) nodes before.1 k node at)

module _ (network : Network) (waits : ℕ → List Bool → ℕ → Bool) (covered : IsCovered network waits) (before : ReadBefore network.inputs 0 network.nodes) (word : List Bool) where
  -- what waits for a node comes after it
  waiter_after : (k : ℕ) (await : IsAwaited network waits (value_at network word) (FromNode k)) → k < await.by
  waiter_after k await =
      let there : IsSource network.inputs (0 + await.by) await.awaits.signal.from = All-at (λ (signal : Signal). IsSource network.inputs (0 + await.by) signal.from) await.node.ins (reads_before_at network.inputs 0 network.nodes before await.by await.node await.stands) await.awaits.place await.awaits.signal await.awaits.reads in
      let source : IsSource network.inputs (0 + await.by) (FromNode k) = subst (IsSource network.inputs (0 + await.by)) await.awaits.is there in
      omega (arith, source)

  climb : (room k : ℕ) → length network.nodes ≤ k + room → k < length network.nodes → Reaches network waits (value_at network word) (FromNode k)
  climb zero k few lt = absurd (omega (arith, few, lt))
  climb (suc room) k few lt =
      elim (covered.nodes k lt) [
        | inl given ↦ output (FromNode k) given
        | inr await ↦
            let after = waiter_after k (await word) in
            waiter (FromNode k) (await word) (climb room (await word).by (omega (arith, few, after)) (slice_get_within network.nodes (await word).by (await word).node (await word).stands))
      ]

  pub node_reaches : (k : ℕ) → k < length network.nodes → Reaches network waits (value_at network word) (FromNode k)
  node_reaches k lt = climb (length network.nodes) k (omega arith) lt

  pub input_reaches : (i : ℕ) → i < network.inputs → Reaches network waits (value_at network word) (Input i)
  input_reaches i lt =
      elim (covered.inputs i lt) [
        | inl given ↦ output (Input i) given
        | inr await ↦ waiter (Input i) (await word) (node_reaches (await word).by (slice_get_within network.nodes (await word).by (await word).node (await word).stands))
      ]
