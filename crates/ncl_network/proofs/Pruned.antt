-- The network of the nodes that are kept.
use Rattle.ncl_network.proofs.Terms.{All, All-head, All-map, All-tail, All-weaker, AreLeft, Bool, Const, Contains, FromNode, Input, IsInOrder, IsMarked, IsNetwork, IsNode, IsSource, List, Network, Node, ReachesOutput, ReadBefore, Signal, SignalSource, Some, [], add-zero, answer_of, ap, arith, cases_lt, cond, cover_value, false, false≢true, get_or, get_or-map, get_or_append_left, get_or_default, get_or_push, is_constant, is_kept, is_read, length, length-le-sum_by, length-map, length_push, map, most_size, moved_node, moved_signal, moved_source, new_place, node_value, node_values, not, option_map, output, reader, refl, select, signal_value, slice_get, slice_get-map, source_value, subst, suc, sum_by, sum_by-cons, sym, true, weight_of_rows, zero-add, ℕ, ⊎_elim, ◌++◌, ◌+◌, ◌<◌, ◌∙◌, ◌∷◌, ◌≡◌, ◌≤◌}
use Rattle.ncl_network.proofs.Selecting.{All-select, sum_by-select-le, length-select-le}
use Rattle.ncl_network.proofs.Walking.{length-node_values}
use Rattle.ncl_network.proofs.Marking.{is_read-from, node_reads}
use Rattle.ncl_network.proofs.NewPlaces.{kept_within, place-kept, place-dropped, place-below, slice_get-select, length-select-place, place_at}

-- the network of the nodes that are kept, where these have these numbers
abbrev pub pruned : Network → List Bool → (ℕ → ℕ) → Network
pruned network kept places = record {
  inputs = network.inputs;
  nodes = map (moved_node places) (select kept network.nodes);
  outputs = map (moved_signal places) network.outputs;
}

-- there is such a source, and where it is a node this is kept
abbrev IsKeptSource : ℕ → ℕ → List Bool → SignalSource → Type 0
IsKeptSource inputs count kept (Input i) = i < inputs
IsKeptSource inputs count kept (FromNode k) = (k < count) × (is_kept kept k ≡ true)
IsKeptSource inputs count kept (Const bit) = Unit {0}

-- what is read by something that keeps all that it reads is kept
all_kept : (inputs count : ℕ) (kept : List Bool) (signals : List Signal) → All (λ signal. IsSource inputs count signal.from) signals → ((k : ℕ) → is_read signals k ≡ true → is_kept kept k ≡ true) → All (λ signal. IsKeptSource inputs count kept signal.from) signals
all_kept inputs count kept signals all reads i d within =
    let signal : Signal = get_or signals i d in
    by_source signal.from refl (all i d within)
  where
    by_source : (from : SignalSource) → (get_or signals i d).from ≡ from → IsSource inputs count from → IsKeptSource inputs count kept from
    by_source (Input j) e there = there
    by_source (FromNode k) e there = (there, reads k (is_read-from signals (get_or signals i d) k (i, within, get_or_default signals i (get_or signals i d) d within) e))
    by_source (Const bit) e there = tt

module _ (kept : List Bool) (places : ℕ → ℕ) (numbered : (k : ℕ) → k < length kept → places k ≡ new_place kept k) where
  -- ---- the order

  moved_exists : (inputs count : ℕ) (from : SignalSource) → IsKeptSource inputs count kept from → IsSource inputs (new_place kept count) (moved_source places from)
  moved_exists inputs count (Input i) there = there
  moved_exists inputs count (FromNode k) there =
      let same = numbered k (kept_within kept k there.1) in
      let below = place-below kept k count there.1 there.0 in
      omega arith
  moved_exists inputs count (Const bit) there = tt

  moved_all : (inputs count : ℕ) (signals : List Signal) → All (λ signal. IsKeptSource inputs count kept signal.from) signals → All (λ signal. IsSource inputs (new_place kept count) signal.from) (map (moved_signal places) signals)
  moved_all inputs count signals all =
      All-map (λ signal. IsSource inputs (new_place kept count) signal.from) (moved_signal places) signals
      (All-weaker (λ signal. IsKeptSource inputs count kept signal.from) (λ signal. IsSource inputs (new_place kept count) (moved_source places signal.from)) (λ signal. moved_exists inputs count signal.from) signals all)

  next_same : (place : ℕ) (b : Bool) (mask : List Bool) → ((i : ℕ) → i < length (b ∷ mask) → get_or (b ∷ mask) i false ≡ is_kept kept (place + i)) → (i : ℕ) → i < length mask → get_or mask i false ≡ is_kept kept ((place + 1) + i)
  next_same place b mask same i within =
      let shift : place + suc i ≡ (place + 1) + i = omega arith in
      same (suc i) (omega arith) ∙ ap (is_kept kept) shift

  next_reads : (inputs place : ℕ) (node : Node) (nodes : List Node) → ((j : ℕ) (other : Node) → slice_get (node ∷ nodes) j ≡ Some other → is_kept kept (place + j) ≡ true → All (λ signal. IsKeptSource inputs (place + j) kept signal.from) other.ins) → (j : ℕ) (other : Node) → slice_get nodes j ≡ Some other → is_kept kept ((place + 1) + j) ≡ true → All (λ signal. IsKeptSource inputs ((place + 1) + j) kept signal.from) other.ins
  next_reads inputs place node nodes reads j other at mark =
      let shift : place + suc j ≡ (place + 1) + j = omega arith in
      subst (λ n. All (λ signal. IsKeptSource inputs n kept signal.from) other.ins) shift (reads (suc j) other at (ap (is_kept kept) shift ∙ mark))

  moved_before : (inputs place : ℕ) (mask : List Bool) (nodes : List Node) → place + length mask ≡ length kept → ((i : ℕ) → i < length mask → get_or mask i false ≡ is_kept kept (place + i)) → ((j : ℕ) (node : Node) → slice_get nodes j ≡ Some node → is_kept kept (place + j) ≡ true → All (λ signal. IsKeptSource inputs (place + j) kept signal.from) node.ins) → ReadBefore inputs (new_place kept place) (map (moved_node places) (select mask nodes))
  moved_before inputs place [] nodes count same reads = tt
  moved_before inputs place (b ∷ mask) [] count same reads = tt
  moved_before inputs place (true ∷ mask) (node ∷ nodes) count same reads =
      let here : is_kept kept place ≡ true = ap (is_kept kept) (sym (add-zero place)) ∙ sym (same 0 (omega arith)) in
      let first : All (λ signal. IsKeptSource inputs place kept signal.from) node.ins = subst (λ n. All (λ signal. IsKeptSource inputs n kept signal.from) node.ins) (add-zero place) (reads 0 node refl (sym (same 0 (omega arith)))) in (
        moved_all inputs place node.ins first,
        subst (λ n. ReadBefore inputs n (map (moved_node places) (select mask nodes))) (place-kept kept place here)
            (moved_before inputs (place + 1) mask nodes (omega arith) (next_same place true mask same) (next_reads inputs place node nodes reads)),
      )
  moved_before inputs place (false ∷ mask) (node ∷ nodes) count same reads =
      let here : is_kept kept place ≡ false = ap (is_kept kept) (sym (add-zero place)) ∙ sym (same 0 (omega arith)) in
      subst (λ n. ReadBefore inputs n (map (moved_node places) (select mask nodes))) (place-dropped kept place (omega arith) here)
      (moved_before inputs (place + 1) mask nodes (omega arith) (next_same place false mask same) (next_reads inputs place node nodes reads))

  -- ---- the values

  -- what is kept has the bits that it had
  Agree : List Bool → List Bool → Type 0
  Agree old new = (length new ≡ new_place kept (length old)) × ((k : ℕ) → k < length old → is_kept kept k ≡ true → get_or new (new_place kept k) false ≡ get_or old k false)

  same_source : (inputs : ℕ) (word old new : List Bool) (from : SignalSource) → Agree old new → IsKeptSource inputs (length old) kept from → source_value word new (moved_source places from) ≡ source_value word old from
  unfolding Agree
  same_source inputs word old new (Input i) agree there = refl
  same_source inputs word old new (FromNode k) agree there =
      ap (λ n. get_or new n false) (numbered k (kept_within kept k there.1)) ∙ agree.1 k there.0 there.1
  same_source inputs word old new (Const bit) agree there = refl

  same_signals : (inputs : ℕ) (word old new : List Bool) (signals : List Signal) → Agree old new → All (λ signal. IsKeptSource inputs (length old) kept signal.from) signals → map (signal_value word new) (map (moved_signal places) signals) ≡ map (signal_value word old) signals
  same_signals inputs word old new [] agree all = refl
  same_signals inputs word old new (signal ∷ signals) agree all =
      let first = same_source inputs word old new signal.from agree (All-head (λ signal. IsKeptSource inputs (length old) kept signal.from) signal signals all) in
      let rest = same_signals inputs word old new signals agree (All-tail (λ signal. IsKeptSource inputs (length old) kept signal.from) signal signals all) in
      λ i. cond signal.inverted (not (first i)) (first i) ∷ rest i

  Agree-kept : (old new : List Bool) (bit : Bool) → is_kept kept (length old) ≡ true → Agree old new → Agree (old ++ bit ∷ []) (new ++ bit ∷ [])
  unfolding Agree
  Agree-kept old new bit here agree = (
    length_push new bit ∙ ap (λ n. n + 1) agree.0 ∙ sym (place-kept kept (length old) here) ∙ ap (new_place kept) (sym (length_push old bit)),
    λ k within mark.
        ⊎_elim
        (λ before.
        let below = place-below kept k (length old) mark before in
        get_or_append_left new (bit ∷ []) false (new_place kept k) (omega (arith, agree.0)) ∙ agree.1 k before mark
        ∙ sym (get_or_append_left old (bit ∷ []) false k before))
        (λ after.
        let last : k ≡ length old = omega (arith, length_push old bit) in
        ap (λ n. get_or (new ++ bit ∷ []) (new_place kept n) false) last
        ∙ get_or_push new bit false (new_place kept (length old)) agree.0
        ∙ sym (get_or_push old bit false (length old) refl) ∙ ap (λ n. get_or (old ++ bit ∷ []) n false) (sym last))
        (cases_lt k (length old)),
  )

  Agree-dropped : (old new : List Bool) (bit : Bool) → length old < length kept → is_kept kept (length old) ≡ false → Agree old new → Agree (old ++ bit ∷ []) new
  unfolding Agree
  Agree-dropped old new bit inside here agree = (
    agree.0 ∙ sym (place-dropped kept (length old) inside here) ∙ ap (new_place kept) (sym (length_push old bit)),
    λ k within mark.
        ⊎_elim
        (λ before. agree.1 k before mark ∙ sym (get_or_append_left old (bit ∷ []) false k before))
        (λ after.
        let last : k ≡ length old = omega (arith, length_push old bit) in
        absurd (false≢true (sym here ∙ ap (is_kept kept) (sym last) ∙ mark)))
        (cases_lt k (length old)),
  )

  same_values : (inputs place : ℕ) (word : List Bool) (mask : List Bool) (nodes : List Node) (old new : List Bool) → length old ≡ place → length mask ≡ length nodes → place + length mask ≡ length kept → ((i : ℕ) → i < length mask → get_or mask i false ≡ is_kept kept (place + i)) → ((j : ℕ) (node : Node) → slice_get nodes j ≡ Some node → is_kept kept (place + j) ≡ true → All (λ signal. IsKeptSource inputs (place + j) kept signal.from) node.ins) → Agree old new → Agree (node_values word old nodes) (node_values word new (map (moved_node places) (select mask nodes)))
  same_values inputs place word [] [] old new at lengths count same reads agree = agree
  same_values inputs place word [] (node ∷ nodes) old new at lengths count same reads agree = absurd (omega arith)
  same_values inputs place word (b ∷ mask) [] old new at lengths count same reads agree = absurd (omega arith)
  same_values inputs place word (true ∷ mask) (node ∷ nodes) old new at lengths count same reads agree =
      let here : is_kept kept place ≡ true = ap (is_kept kept) (sym (add-zero place)) ∙ sym (same 0 (omega arith)) in
      let first : All (λ signal. IsKeptSource inputs (length old) kept signal.from) node.ins =
      subst (λ n. All (λ signal. IsKeptSource inputs n kept signal.from) node.ins) (add-zero place ∙ sym at) (reads 0 node refl (sym (same 0 (omega arith)))) in
      let bit : Bool = node_value word old node in
      let bits : node_value word new (moved_node places node) ≡ bit = ap (cover_value node.on node.rows) (same_signals inputs word old new node.ins agree first) in
      let more : Agree (old ++ bit ∷ []) (new ++ node_value word new (moved_node places node) ∷ []) =
      subst (λ b. Agree (old ++ bit ∷ []) (new ++ b ∷ [])) (sym bits) (Agree-kept old new bit (ap (is_kept kept) at ∙ here) agree) in
      same_values inputs (place + 1) word mask nodes (old ++ bit ∷ []) (new ++ node_value word new (moved_node places node) ∷ []) (length_push old bit ∙ ap (λ n. n + 1) at) (omega arith) (omega arith) (next_same place true mask same) (next_reads inputs place node nodes reads) more
  same_values inputs place word (false ∷ mask) (node ∷ nodes) old new at lengths count same reads agree =
      let here : is_kept kept place ≡ false = ap (is_kept kept) (sym (add-zero place)) ∙ sym (same 0 (omega arith)) in
      let bit : Bool = node_value word old node in
      same_values inputs (place + 1) word mask nodes (old ++ bit ∷ []) new (length_push old bit ∙ ap (λ n. n + 1) at) (omega arith) (omega arith) (next_same place false mask same) (next_reads inputs place node nodes reads) (Agree-dropped old new bit (omega arith) (ap (is_kept kept) at ∙ here) agree)

-- ---- the network

-- what holds of each node, whatever the numbers in it, holds of those that are left
pub All-left : (P : Node → Type 0) → ((places : ℕ → ℕ) (node : Node) → P node → P (moved_node places node)) → (nodes left : List Node) → AreLeft nodes left → All P nodes → All P left
All-left P moves nodes left (kept, places, is) all =
    subst (All P) (sym is) (All-map P (moved_node places) (select kept nodes) (All-weaker P (λ node. P (moved_node places node)) (moves places) (select kept nodes) (All-select P kept nodes all)))

-- a sum over nodes, in which their numbers don't count, is no more over those that are left
pub sum_by-left : (f : Node → ℕ) → ((places : ℕ → ℕ) (node : Node) → f (moved_node places node) ≤ f node) → (nodes left : List Node) → AreLeft nodes left → sum_by f left ≤ sum_by f nodes
sum_by-left f less nodes left (kept, places, is) =
    subst (λ xs. sum_by f xs ≤ sum_by f nodes) (sym is) (sum_by-select-le f f (moved_node places) (less places) kept nodes)

-- the weight of what is left
pub weighs_less : (nodes left : List Node) → AreLeft nodes left → sum_by (λ node. weight_of_rows node.rows) left ≤ sum_by (λ node. weight_of_rows node.rows) nodes
weighs_less = sum_by-left (λ node. weight_of_rows node.rows) (λ places node. omega arith)

same_constant : (places : ℕ → ℕ) (from : SignalSource) → is_constant (moved_source places from) ≡ is_constant from
same_constant places (Input i) = refl
same_constant places (FromNode k) = refl
same_constant places (Const bit) = refl

-- signals that aren't constant still aren't
pub moved_constant : (places : ℕ → ℕ) (signals : List Signal) → All (λ signal. is_constant signal.from ≡ false) signals → All (λ signal. is_constant signal.from ≡ false) (map (moved_signal places) signals)
moved_constant places signals vary =
    All-map (λ signal. is_constant signal.from ≡ false) (moved_signal places) signals (All-weaker (λ signal. is_constant signal.from ≡ false) (λ signal. is_constant (moved_source places signal.from) ≡ false) (λ signal e. same_constant places signal.from ∙ e) signals vary)

pub IsNode-moved : (places : ℕ → ℕ) (node : Node) → IsNode node → IsNode (moved_node places node)
IsNode-moved places node is =
    let width = length-map node.ins (moved_signal places) in
    record {
      two_inputs = omega (arith, is.two_inputs);
      no_constant = moved_constant places node.ins is.no_constant;
      some_row = is.some_row;
      row_widths = subst (λ n. All (λ row. length row ≡ n) node.rows) (sym width) is.row_widths;
      no_idle_row = is.no_idle_row;
    }

Contains-moved : {X Y : Type 0} (f : X → Y) (xs : List X) (x : X) → Contains xs x → Contains (map f xs) (f x)
Contains-moved f xs x (k, within, at) =
    (k, omega (arith, length-map xs f), get_or-map f xs k x (f x) within ∙ ap f at)

-- a node that reaches an output is kept
reaching_kept : (network : Network) (kept : List Bool) (k : ℕ) → IsMarked network kept 0 → ReachesOutput network k → is_kept kept k ≡ true
reaching_kept network kept k marked (output k' signal among is) =
    marked.outputs k' (is_read-from network.outputs signal k' among is)
reaching_kept network kept k marked (reader k' by node signal at among is reach) =
    marked.reads k' by node (omega arith) at (reaching_kept network kept by marked reach) (is_read-from node.ins signal k' among is)

-- and reaches one afterwards
still_reaches : (network : Network) (kept : List Bool) (places : ℕ → ℕ) → ((k : ℕ) → k < length kept → places k ≡ new_place kept k) → IsMarked network kept 0 → (k : ℕ) → ReachesOutput network k → ReachesOutput (pruned network kept places) (new_place kept k)
still_reaches network kept places numbered marked k (output k' signal among is) =
    let mark = marked.outputs k' (is_read-from network.outputs signal k' among is) in
    output (new_place kept k') (moved_signal places signal) (Contains-moved (moved_signal places) network.outputs signal among) (ap (moved_source places) is ∙ ap FromNode (numbered k' (kept_within kept k' mark)))
still_reaches network kept places numbered marked k (reader k' by node signal at among is reach) =
    let by_mark = reaching_kept network kept by marked reach in
    let mark = marked.reads k' by node (omega arith) at by_mark (is_read-from node.ins signal k' among is) in
    reader (new_place kept k') (new_place kept by) (moved_node places node) (moved_signal places signal)
    (slice_get-map (moved_node places) (select kept network.nodes) (new_place kept by) ∙ ap (option_map (moved_node places)) (slice_get-select kept network.nodes by node by_mark at))
    (Contains-moved (moved_signal places) node.ins signal among) (ap (moved_source places) is ∙ ap FromNode (numbered k' (kept_within kept k' mark)))
    (still_reaches network kept places numbered marked by reach)

module _ (network : Network) (kept : List Bool) (places : ℕ → ℕ) (numbered : (k : ℕ) → k < length kept → places k ≡ new_place kept k) (ordered : IsInOrder network) (marked : IsMarked network kept 0) where
  node_keeps : (j : ℕ) (node : Node) → slice_get network.nodes j ≡ Some node → is_kept kept (0 + j) ≡ true → All (λ signal. IsKeptSource network.inputs (0 + j) kept signal.from) node.ins
  node_keeps j node at mark =
      let here : is_kept kept j ≡ true = ap (is_kept kept) (sym (zero-add j)) ∙ mark in
      subst (λ n. All (λ signal. IsKeptSource network.inputs n kept signal.from) node.ins) (sym (zero-add j))
      (all_kept network.inputs j kept node.ins (node_reads network j node ordered at) (λ k. marked.reads k j node (omega arith) at here))

  outputs_keep : All (λ signal. IsKeptSource network.inputs (length network.nodes) kept signal.from) network.outputs
  outputs_keep =
      all_kept network.inputs (length network.nodes) kept network.outputs ordered.outputs_exist marked.outputs

  pub same_answer : (word : List Bool) → answer_of (pruned network kept places) word ≡ answer_of network word
  unfolding Agree
  same_answer word =
      let agree = same_values kept places numbered network.inputs 0 word kept network.nodes [] [] refl marked.as_many (zero-add (length kept)) (λ i within. ap (is_kept kept) (sym (zero-add i))) node_keeps (refl, λ k within mark. absurd (omega arith)) in
      let lengths : length (node_values word [] network.nodes) ≡ length network.nodes = omega (arith, length-node_values word [] network.nodes) in
      same_signals kept places numbered network.inputs word (node_values word [] network.nodes) (node_values word [] (map (moved_node places) (select kept network.nodes))) network.outputs agree (subst (λ n. All (λ signal. IsKeptSource network.inputs n kept signal.from) network.outputs) (sym lengths) outputs_keep)

  left_length : length (map (moved_node places) (select kept network.nodes)) ≡ new_place kept (length network.nodes)
  left_length =
      length-map (select kept network.nodes) (moved_node places) ∙ length-select-place kept network.nodes marked.as_many ∙ ap (new_place kept) marked.as_many

  pub IsInOrder-pruned : IsInOrder (pruned network kept places)
  IsInOrder-pruned = record {
    reads_before = moved_before kept places numbered network.inputs 0 kept network.nodes (zero-add (length kept)) (λ i within. ap (is_kept kept) (sym (zero-add i))) node_keeps;
    outputs_exist = subst (λ n. All (λ signal. IsSource network.inputs n signal.from) (map (moved_signal places) network.outputs)) (sym left_length) (moved_all kept places numbered network.inputs (length network.nodes) network.outputs outputs_keep);
    few = omega (arith, length-map (select kept network.nodes) (moved_node places), length-select-le kept network.nodes, ordered.few);
  }

  pub each_reaches : (k : ℕ) → k < length (pruned network kept places).nodes → ReachesOutput (pruned network kept places) k
  each_reaches n below =
      let (k, mark, is) = place_at kept network.nodes n marked.as_many (omega (arith, length-map (select kept network.nodes) (moved_node places))) in
      subst (ReachesOutput (pruned network kept places)) is (still_reaches network kept places numbered marked k (marked.reach k mark))

-- a network that is ordered, whose nodes are left of nodes that covers fold into
pub IsNetwork-left : (nodes : List Node) (network : Network) → IsInOrder network → ((k : ℕ) → k < length network.nodes → ReachesOutput network k) → AreLeft nodes network.nodes → All IsNode nodes → sum_by (λ node. weight_of_rows node.rows) nodes ≤ most_size → IsNetwork network
IsNetwork-left nodes network ordered reach left each small = record {
  nodes = All-left IsNode IsNode-moved nodes network.nodes left each;
  reads_before = ordered.reads_before;
  outputs_exist = ordered.outputs_exist;
  reach = reach;
  small = omega (arith, weighs_less nodes network.nodes left);
}

-- each node weighs something
nodes_weigh : (nodes : List Node) → All IsNode nodes → length nodes ≤ sum_by (λ node. weight_of_rows node.rows) nodes
nodes_weigh [] each = omega arith
nodes_weigh (node ∷ nodes) each =
    let is : IsNode node = All-head IsNode node nodes each in
    omega (arith, sum_by-cons (λ (node : Node). weight_of_rows node.rows) node nodes, length-le-sum_by (λ row. 1 + length row) (λ row. omega arith) node.rows, is.some_row, nodes_weigh nodes (All-tail IsNode node nodes each))

-- a network that models fold into stands in order
pub IsInOrder-network : (network : Network) → IsNetwork network → IsInOrder network
IsInOrder-network network is = record {
  reads_before = is.reads_before;
  outputs_exist = is.outputs_exist;
  few = omega (arith, nodes_weigh network.nodes is.nodes, is.small);
}
