-- What reaches an output through a tree of nodes, and which inputs do.
use Rattle.ncl_rails.proofs.Terms.{Const, Contains, Contains-from_Member, FromNode, Input, Joint, List, Member, Member-append_left, Member-append_right, Network, Node, NodeTree, ReachesOutput, Signal, SignalSource, Some, SourceReaches, [], ap, arith, eqb-true, here, inl, inr, is_among, is_input, is_input_read, is_output, is_read, length, member_from_list_any, more, node_signal, one, or_cases, output, pair_ins, pair_node, reader, refl, slice_get, slice_get-from_Contains, slice_get_within, subst, suc, sym, there, true, zero, ℕ, ◌++◌, ◌+◌, ◌<◌, ◌∷◌, ◌≡◌}

-- a node that reaches an output does so as a source
pub source_reaches : (network : Network) (k : ℕ) → ReachesOutput network k → SourceReaches network (FromNode k)
source_reaches network _ (is_output k signal in_outputs from) = output (FromNode k) signal in_outputs from
source_reaches network _ (is_read k by node signal at reads from reach) = reader (FromNode k) by node signal at reads from (source_reaches network by reach)

-- ---- inputs

is_input-true : (i : ℕ) (from : SignalSource) → is_input i from ≡ true → from ≡ Input i
is_input-true i (Input j) e = ap Input (eqb-true j i e)
is_input-true i (FromNode k) e = absurd cc
is_input-true i (Const bit) e = absurd cc

among_signals : (signals : List Signal) (i : ℕ) → is_among signals i ≡ true → (signal : Signal) × Member signal signals × (signal.from ≡ Input i)
among_signals signals i e =
    let (signal, m, passes) = member_from_list_any (λ (s : Signal). is_input i s.from) signals e in
    (signal, m, is_input-true i signal.from passes)

-- an input that is read reaches an output where all nodes do
pub read_reaches : (network : Network) → ((k : ℕ) → k < length network.nodes → SourceReaches network (FromNode k)) → (i : ℕ) → is_input_read network i ≡ true → SourceReaches network (Input i)
read_reaches network reach i e =
    elim (or_cases (is_among network.outputs i) _ e) [
      | inl out ↦
          let (signal, m, is) = among_signals network.outputs i out in
          output (Input i) signal (Contains-from_Member signal m) is
      | inr read ↦
          let (node, among, passes) = member_from_list_any (λ (n : Node). is_among n.ins i) network.nodes read in
          let (signal, m, is) = among_signals node.ins i passes in
          let (by, at) = slice_get-from_Contains network.nodes node (Contains-from_Member node among) in
          reader (Input i) by node signal at (Contains-from_Member signal m) is (reach by (slice_get_within network.nodes by node at))
    ]

-- ---- trees

-- what a node over two signals reads reaches where the node and the rest of the queue do
pair_reaches : (network : Network) (kind : Joint) (k : ℕ) (s t : Signal) (rest : List Signal) → slice_get network.nodes k ≡ Some (pair_node kind s t) → ((y : Signal) → Member y (rest ++ node_signal k ∷ []) → SourceReaches network y.from) → (x : Signal) → Member x (s ∷ t ∷ rest) → SourceReaches network x.from
pair_reaches network kind k s t rest stands queue _ here =
    reader s.from k (pair_node kind s t) s stands (subst (λ ins. Contains ins s) (sym (pair_ins kind s t)) (0, omega arith, refl)) refl (queue (node_signal k) (Member-append_right rest (node_signal k) here))
pair_reaches network kind k s t rest stands queue _ (there here) =
    reader t.from k (pair_node kind s t) t stands (subst (λ ins. Contains ins t) (sym (pair_ins kind s t)) (1, omega arith, refl)) refl (queue (node_signal k) (Member-append_right rest (node_signal k) here))
pair_reaches network kind k s t rest stands queue x (there (there m)) = queue x (Member-append_left x (node_signal k ∷ []) m)

only_reaches : (network : Network) (signal s : Signal) → SourceReaches network signal.from → Member s (signal ∷ []) → SourceReaches network s.from
only_reaches network signal _ reach here = reach
only_reaches network signal s reach (there m) = elim m [ ]

-- where the root reaches an output of a network that has these nodes, so do all signals of the queue
pub tree_reaches : (network : Network) (kind : Joint) (k : ℕ) (pending : List Signal) (nodes : List Node) (root : Signal) → NodeTree kind k pending nodes root → ((i : ℕ) (node : Node) → slice_get nodes i ≡ Some node → slice_get network.nodes (k + i) ≡ Some node) → SourceReaches network root.from → (s : Signal) → Member s pending → SourceReaches network s.from
tree_reaches network kind _ _ _ _ (one k signal) stand reach s m = only_reaches network signal s reach m
tree_reaches network kind _ _ _ _ (more k s t rest nodes root tree) stand reach x m =
    let first : k + 0 ≡ k = omega arith in
    pair_reaches network kind k s t rest
    (subst (λ n. slice_get network.nodes n ≡ Some (pair_node kind s t)) first (stand 0 (pair_node kind s t) refl))
    (tree_reaches network kind (k + 1) (rest ++ node_signal k ∷ []) nodes root tree
    (λ i node at. let place : k + suc i ≡ (k + 1) + i = omega arith in subst (λ n. slice_get network.nodes n ≡ Some node) place (stand (suc i) node at))
    reach)
    x
    m

-- and so do its nodes
pub tree_nodes_reach : (network : Network) (kind : Joint) (k : ℕ) (pending : List Signal) (nodes : List Node) (root : Signal) → NodeTree kind k pending nodes root → ((i : ℕ) (node : Node) → slice_get nodes i ≡ Some node → slice_get network.nodes (k + i) ≡ Some node) → SourceReaches network root.from → (i : ℕ) → i < length nodes → SourceReaches network (FromNode (k + i))
tree_nodes_reach network kind _ _ _ _ (one k signal) stand reach i lt = absurd (omega (arith, lt))
tree_nodes_reach network kind _ _ _ _ (more k s t rest nodes root tree) stand reach zero lt =
    let first : k ≡ k + 0 = omega arith in
    let later : (i : ℕ) (node : Node) → slice_get nodes i ≡ Some node → slice_get network.nodes ((k + 1) + i) ≡ Some node = λ i node at. (let place : k + suc i ≡ (k + 1) + i = omega arith in subst (λ n. slice_get network.nodes n ≡ Some node) place (stand (suc i) node at)) in
    subst (λ n. SourceReaches network (FromNode n)) first
    (tree_reaches network kind (k + 1) (rest ++ node_signal k ∷ []) nodes root tree later reach (node_signal k) (Member-append_right rest (node_signal k) here))
tree_nodes_reach network kind _ _ _ _ (more k s t rest nodes root tree) stand reach (suc i) lt =
    let place : (k + 1) + i ≡ k + suc i = omega arith in
    let later : (i : ℕ) (node : Node) → slice_get nodes i ≡ Some node → slice_get network.nodes ((k + 1) + i) ≡ Some node = λ i node at. (let place : k + suc i ≡ (k + 1) + i = omega arith in subst (λ n. slice_get network.nodes n ≡ Some node) place (stand (suc i) node at)) in
    subst (λ n. SourceReaches network (FromNode n)) place (tree_nodes_reach network kind (k + 1) (rest ++ node_signal k ∷ []) nodes root tree later reach i (omega (arith, lt)))

-- ---- trees over one and two signals

tree_of_one : (kind : Joint) (k : ℕ) (pending : List Signal) (nodes : List Node) (root : Signal) → NodeTree kind k pending nodes root → (x : Signal) → pending ≡ x ∷ [] → (nodes ≡ []) × (root ≡ x)
tree_of_one kind _ _ _ _ (one k signal) x is = (refl, cc)
tree_of_one kind _ _ _ _ (more k s t rest nodes root tree) x is = absurd cc

pub tree_of_two : (kind : Joint) (k : ℕ) (pending : List Signal) (nodes : List Node) (root : Signal) → NodeTree kind k pending nodes root → (x y : Signal) → pending ≡ x ∷ y ∷ [] → (nodes ≡ pair_node kind x y ∷ []) × (root ≡ node_signal k)
tree_of_two kind _ _ _ _ (one k signal) x y is = absurd cc
tree_of_two kind _ _ _ _ (more k s t rest nodes root tree) x y is =
    let first : s ≡ x = cc in
    let second : t ≡ y = cc in
    let none : rest ≡ [] = cc in
    let (no_nodes, at) = tree_of_one kind (k + 1) (rest ++ node_signal k ∷ []) nodes root tree (node_signal k) (ap (λ xs. xs ++ node_signal k ∷ []) none) in
    ((λ i. pair_node kind (first i) (second i) ∷ no_nodes i), at)
