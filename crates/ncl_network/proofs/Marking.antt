-- Which nodes are marked, one node further.
use Rattle.ncl_network.proofs.Terms.{All, All-weaker, Any-from_list_any, Bool, Const, Contains, FromNode, Input, IsInOrder, IsMarked, IsPlaced, IsSource, List, Network, Node, ReadBefore, Signal, SignalSource, Some, [], add-zero, ap, arith, cases_eq, eq-eqb, eqb-true, false, false≢true, get_or, is_kept, is_node, is_read, length, list_any_at, or_cases, or_left, or_right, output, reader, refl, replicate, same_Some, slice_get, slice_get-get_or, slice_get_within, subst, suc, sym, true, zero, zero-add, ℕ, ⊎_elim, ◌+◌, ◌<◌, ◌||◌, ◌∙◌, ◌∷◌, ◌≡◌, ◌≤◌}
use Rattle.ncl_network.proofs.Walking.{IsSource-more}

-- ---- what is read

is_node-true : (k : ℕ) (from : SignalSource) → is_node k from ≡ true → from ≡ FromNode k
is_node-true k (Input i) e = absurd cc
is_node-true k (FromNode j) e = ap FromNode (eqb-true j k e)
is_node-true k (Const bit) e = absurd cc

-- a signal that is of a node
read_by : (signals : List Signal) (k : ℕ) → is_read signals k ≡ true → (signal : Signal) × Contains signals signal × (signal.from ≡ FromNode k)
read_by signals k e =
    let (i, signal, within, at, passes) = Any-from_list_any (λ signal. is_node k signal.from) signals e in
    (signal, (i, within, at), is_node-true k signal.from passes)

pub is_read-from : (signals : List Signal) (signal : Signal) (k : ℕ) → Contains signals signal → signal.from ≡ FromNode k → is_read signals k ≡ true
is_read-from signals signal k (i, within, at) e =
    list_any_at (λ signal. is_node k signal.from) signals i signal within (ap (λ s. is_node k s.from) at ∙ ap (is_node k) e ∙ eq-eqb k k refl)

pub read_below : (inputs count : ℕ) (signals : List Signal) (k : ℕ) → All (λ signal. IsSource inputs count signal.from) signals → is_read signals k ≡ true → k < count
read_below inputs count signals k all e =
    let (signal, (i, within, at), is) = read_by signals k e in
    let there : IsSource inputs count signal.from = subst (λ s. IsSource inputs count s.from) at (all i signal within) in
    let placed : IsSource inputs count (FromNode k) = subst (IsSource inputs count) is there in
    placed

IsPlaced-from : (inputs count : ℕ) (from : SignalSource) → IsSource inputs count from → IsPlaced count from
IsPlaced-from inputs count (Input i) there = tt
IsPlaced-from inputs count (FromNode k) there = there
IsPlaced-from inputs count (Const bit) there = tt

pub all_placed : (inputs count : ℕ) (signals : List Signal) → All (λ signal. IsSource inputs count signal.from) signals → All (λ signal. IsPlaced count signal.from) signals
all_placed inputs count signals =
    All-weaker (λ signal. IsSource inputs count signal.from) (λ signal. IsPlaced count signal.from) (λ signal. IsPlaced-from inputs count signal.from) signals

-- what the node at a place reads
reads_at : (inputs place : ℕ) (nodes : List Node) (k : ℕ) (node : Node) → ReadBefore inputs place nodes → slice_get nodes k ≡ Some node → All (λ signal. IsSource inputs (place + k) signal.from) node.ins
reads_at inputs place [] k node before at = absurd cc
reads_at inputs place (first ∷ nodes) zero node before at =
    subst (λ n. All (λ signal. IsSource inputs (place + 0) signal.from) n.ins) (same_Some first node at)
    (subst (λ n. All (λ signal. IsSource inputs n signal.from) first.ins) (sym (add-zero place)) before.0)
reads_at inputs place (first ∷ nodes) (suc k) node before at =
    let count : (place + 1) + k ≡ place + suc k = omega arith in
    subst (λ n. All (λ signal. IsSource inputs n signal.from) node.ins) count (reads_at inputs (place + 1) nodes k node before.1 at)

pub node_reads : (network : Network) (k : ℕ) (node : Node) → IsInOrder network → slice_get network.nodes k ≡ Some node → All (λ signal. IsSource network.inputs k signal.from) node.ins
node_reads network k node ordered at =
    subst (λ n. All (λ signal. IsSource network.inputs n signal.from) node.ins) (zero-add k) (reads_at network.inputs 0 network.nodes k node ordered.reads_before at)

-- what a node in its turn reads has a mark
pub turn_placed : (network : Network) (k : ℕ) (node : Node) (signals : List Signal) (marks : ℕ) → IsInOrder network → slice_get network.nodes k ≡ Some node → signals ≡ node.ins → k ≤ marks → All (λ signal. IsPlaced marks signal.from) signals
turn_placed network k node signals marks ordered at same less =
    all_placed network.inputs marks signals
    (All-weaker (λ signal. IsSource network.inputs k signal.from) (λ signal. IsSource network.inputs marks signal.from) (λ signal. IsSource-more network.inputs k marks signal.from less) signals
    (subst (All (λ signal. IsSource network.inputs k signal.from)) (sym same) (node_reads network k node ordered at)))

pub nodes_placed : (network : Network) (nodes : List Node) (marks : ℕ) → IsInOrder network → nodes ≡ network.nodes → length network.nodes ≤ marks → All (λ node. All (λ signal. IsPlaced marks signal.from) node.ins) nodes
nodes_placed network nodes marks ordered same less k d within =
    let count : length nodes ≡ length network.nodes = ap length same in
    let at : slice_get network.nodes k ≡ Some (get_or nodes k d) = ap (λ l. slice_get l k) (sym same) ∙ slice_get-get_or nodes k d within in
    turn_placed network k (get_or nodes k d) (get_or nodes k d).ins marks ordered at refl (omega arith)

-- ---- the marks

none_kept : (n k : ℕ) → is_kept (replicate n false) k ≡ false
none_kept zero k = refl
none_kept (suc n) zero = refl
none_kept (suc n) (suc k) = none_kept n k

-- what the outputs read is marked
pub IsMarked-outputs : (network : Network) (kept : List Bool) → length kept ≡ length network.nodes → ((k : ℕ) → is_kept kept k ≡ (is_kept (replicate (length network.nodes) false) k || is_read network.outputs k)) → IsMarked network kept (length network.nodes)
IsMarked-outputs network kept count marks =
    let exact : (k : ℕ) → is_kept kept k ≡ is_read network.outputs k =
    λ k. marks k ∙ ap (λ b. b || is_read network.outputs k) (none_kept (length network.nodes) k) in
    record {
      as_many = count;
      outputs = λ k e. exact k ∙ e;
      reads = λ k j node late at mark e. let within = slice_get_within network.nodes j node at in absurd (omega arith);
      reach = λ k mark.
          let (signal, among, is) = read_by network.outputs k (sym (exact k) ∙ mark) in
          output k signal among is;
    }

-- a node that isn't marked marks nothing
pub IsMarked-passed : (network : Network) (kept : List Bool) (place : ℕ) → is_kept kept place ≡ false → IsMarked network kept (place + 1) → IsMarked network kept place
IsMarked-passed network kept place unmarked marked = record {
  as_many = marked.as_many;
  outputs = marked.outputs;
  reads = λ k j node late at mark e.
      ⊎_elim
      (λ same. absurd (false≢true (sym unmarked ∙ ap (is_kept kept) (sym same) ∙ mark)))
      (λ differs. marked.reads k j node (omega arith) at mark e)
      (cases_eq j place);
  reach = marked.reach;
}

-- a node that is marked marks what it reads
pub IsMarked-more : (network : Network) (kept new : List Bool) (place : ℕ) (node : Node) → IsInOrder network → slice_get network.nodes place ≡ Some node → is_kept kept place ≡ true → length new ≡ length kept → ((k : ℕ) → is_kept new k ≡ (is_kept kept k || is_read node.ins k)) → IsMarked network kept (place + 1) → IsMarked network new place
IsMarked-more network kept new place node ordered at mark count marks marked = record {
  as_many = count ∙ marked.as_many;
  outputs = λ k e. marks k ∙ or_left _ _ (marked.outputs k e);
  reads = λ k j other late other_at other_mark e.
      let was : is_kept kept j ≡ true =
      ⊎_elim (λ was. was)
      (λ read. let below = read_below network.inputs place node.ins j (node_reads network place node ordered at) read in absurd (omega arith))
      (or_cases _ _ (sym (marks j) ∙ other_mark)) in
      ⊎_elim
      (λ same.
      let one : other ≡ node = same_Some other node (sym other_at ∙ ap (slice_get network.nodes) same ∙ at) in
      marks k ∙ or_right _ _ (ap (λ n. is_read n.ins k) (sym one) ∙ e))
      (λ differs. marks k ∙ or_left _ _ (marked.reads k j other (omega arith) other_at was e))
      (cases_eq j place);
  reach = λ k new_mark.
      ⊎_elim
      (λ was. marked.reach k was)
      (λ read.
      let (signal, among, is) = read_by node.ins k read in
      reader k place node signal at among is (marked.reach place mark))
      (or_cases _ _ (sym (marks k) ∙ new_mark));
}
