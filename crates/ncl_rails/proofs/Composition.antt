-- What the pairs of a network show that is laid out, and what waits for what.
use Rattle.ncl_rails.proofs.Terms.{All, All-at, All-head, All-tail, AreLaidOut, Bool, Const, Contains-from_Member, FromNode, Input, IsBelow, IsCase, IsComplete, IsCovered, IsNull, IsSource, IsSource-more, List, Member, Member-from_Contains, Member-map, Nets, Network, Node, Obeys, Rails, Reaches, ReadBefore, ShowWord, Shows, Signal, SignalSource, Some, StageCell, [], answer_of, ap, arith, cases_lt, false, get_or_append_left, get_or_from_slice_get, get_or_push, has_data, holds, inl, inr, is_constant, length, length_push, list_all, map, member_of_flat_map, no_rails, node_value, node_values, option_map, out_of, refl, signal_pair, signal_value, slice_get, slice_get-from_Contains, slice_get-map, slice_get-some, slice_get_within, slice_index_or, source_pair, source_value, subst, suc, sym, true, value_at, waiter, ℕ, ◌++◌, ◌+◌, ◌<◌, ◌∙◌, ◌∷◌, ◌≡◌}
use Rattle.ncl_rails.specs.Waiting.{output}
use Rattle.ncl_rails.proofs.Covering.{reads_before_at, node_reaches}
use Rattle.ncl_rails.proofs.Lists.{list_all-fails}
use Rattle.ncl_rails.proofs.Showing.{Shows-turned, IsNull-turned, null_has_none}

pub reads_at : (inputs place : ℕ) (nodes : List Node) → ReadBefore inputs place nodes → (k : ℕ) (node : Node) → slice_get nodes k ≡ Some node → All (λ (signal : Signal). IsSource inputs (place + length nodes) signal.from) node.ins
reads_at inputs place nodes before k node at i d lt =
    let within : k < length nodes = slice_get_within nodes k node at in
    IsSource-more inputs (place + k) (place + length nodes) _ (omega (arith, within)) (reads_before_at inputs place nodes before k node at i d lt)

module _ (network : Network) (waits : ℕ → List Bool → ℕ → Bool) (inputs : List Rails) (cells : List StageCell) (pairs : List Rails) (complete : IsComplete network) (covered : IsCovered network waits) (laid : AreLaidOut inputs waits network.nodes cells pairs) where
  -- the pairs of the outputs
  unfoldable pub output_pairs : List Rails
  output_pairs = map (signal_pair inputs pairs) network.outputs

  varies_at : (k : ℕ) (node : Node) → slice_get network.nodes k ≡ Some node → All (λ (signal : Signal). is_constant signal.from ≡ false) node.ins
  varies_at k node at =
      All-at (λ (n : Node). All (λ (signal : Signal). is_constant signal.from ≡ false) n.ins) network.nodes (λ i d lt. (complete.varying.nodes i d lt).no_constant) k node at

  part_at : (k : ℕ) → k < length network.nodes → (part : List StageCell) × (slice_get laid.parts k ≡ Some part)
  part_at k lt = let count = laid.as_many in slice_get-some laid.parts k (omega (arith, lt, count))

  pair_at : (k : ℕ) → k < length network.nodes → (pair : Rails) × (slice_get pairs k ≡ Some pair)
  pair_at k lt = let count = laid.pairs_as_many in slice_get-some pairs k (omega (arith, lt, count))

  -- ---- what the pairs show

  module _ (base : Nets) (word : List Bool) (obeys : (c : StageCell) → Member c cells → base (out_of c) ≡ holds base c) (at_inputs : (i : ℕ) → i < network.inputs → Shows base (source_pair inputs pairs (Input i)) (slice_index_or word i false)) where
    cells_obey : Obeys base cells
    cells_obey = record { each = λ c m. obeys c (Member-from_Contains cells c m) }

    source_shown : (bits : List Bool) (k : ℕ) → ((j : ℕ) → j < k → Shows base (source_pair inputs pairs (FromNode j)) (slice_index_or bits j false)) → (from : SignalSource) → IsSource network.inputs k from → is_constant from ≡ false → Shows base (source_pair inputs pairs from) (source_value word bits from)
    source_shown bits k before (Input i) there varies = at_inputs i there
    source_shown bits k before (FromNode j) there varies = before j there
    source_shown bits k before (Const bit) there varies = absurd cc

    signals_shown : (bits : List Bool) (k : ℕ) → ((j : ℕ) → j < k → Shows base (source_pair inputs pairs (FromNode j)) (slice_index_or bits j false)) → (signals : List Signal) → All (λ (signal : Signal). IsSource network.inputs k signal.from) signals → All (λ (signal : Signal). is_constant signal.from ≡ false) signals → ShowWord base (map (signal_pair inputs pairs) signals) (map (signal_value word bits) signals)
    signals_shown bits k before [] there varies = tt
    signals_shown bits k before (signal ∷ signals) there varies =
        let here_there : IsSource network.inputs k signal.from = All-head (λ (x : Signal). IsSource network.inputs k x.from) signal signals there in
        let here_varies : is_constant signal.from ≡ false = All-head (λ (x : Signal). is_constant x.from ≡ false) signal signals varies in (
          Shows-turned base (source_pair inputs pairs signal.from) (source_value word bits signal.from) signal.inverted (source_shown bits k before signal.from here_there here_varies),
          signals_shown bits k before signals (All-tail (λ (x : Signal). IsSource network.inputs k x.from) signal signals there) (All-tail (λ (x : Signal). is_constant x.from ≡ false) signal signals varies),
        )

    -- one node more
    node_shown : (bits : List Bool) (node : Node) → slice_get network.nodes (length bits) ≡ Some node → All (λ (signal : Signal). IsSource network.inputs (length bits) signal.from) node.ins → ((j : ℕ) → j < length bits → Shows base (source_pair inputs pairs (FromNode j)) (slice_index_or bits j false)) → Shows base (source_pair inputs pairs (FromNode (length bits))) (node_value word bits node)
    node_shown bits node at reads before =
        let within : length bits < length network.nodes = slice_get_within network.nodes (length bits) node at in
        let (part, found) = part_at (length bits) within in
        let (pair, paired) = pair_at (length bits) within in
        let template = laid.templates (length bits) node part pair at found paired in
        let shown = template.value base (map (signal_value word bits) node.ins) cells_obey (signals_shown bits (length bits) before node.ins reads (varies_at (length bits) node at)) in
        subst (λ (p : Rails). Shows base p (node_value word bits node)) (sym (get_or_from_slice_get pairs (length bits) pair no_rails paired)) shown

    walk : (bits : List Bool) (rest : List Node) → ((j : ℕ) (node : Node) → slice_get rest j ≡ Some node → slice_get network.nodes (length bits + j) ≡ Some node) → ReadBefore network.inputs (length bits) rest → ((j : ℕ) → j < length bits → Shows base (source_pair inputs pairs (FromNode j)) (slice_index_or bits j false)) → (j : ℕ) → j < length bits + length rest → Shows base (source_pair inputs pairs (FromNode j)) (slice_index_or (node_values word bits rest) j false)
    walk bits [] at reads before j lt = before j (omega arith)
    walk bits (node ∷ rest) at reads before j lt =
        let bit : Bool = node_value word bits node in
        let len : length (bits ++ bit ∷ []) ≡ length bits + 1 = length_push bits bit in
        let none : length bits + 0 ≡ length bits = omega arith in
        let stands : slice_get network.nodes (length bits) ≡ Some node = subst (λ k. slice_get network.nodes k ≡ Some node) none (at 0 node refl) in
        let shown = node_shown bits node stands reads.0 before in
        walk (bits ++ bit ∷ []) rest
        (λ i n found.
        let place : length bits + suc i ≡ length (bits ++ bit ∷ []) + i = omega (arith, len) in
        subst (λ k. slice_get network.nodes k ≡ Some n) place (at (suc i) n found))
        (subst (λ k. ReadBefore network.inputs k rest) (sym len) reads.1)
        (λ i within.
        elim (cases_lt i (length bits)) [
          | inl old ↦ subst (Shows base (source_pair inputs pairs (FromNode i))) (sym (get_or_append_left bits (bit ∷ []) false i old)) (before i old)
          | inr new ↦
              let last : length bits ≡ i = omega (arith, within, len, new) in
              subst (λ k. Shows base (source_pair inputs pairs (FromNode k)) (slice_index_or (bits ++ bit ∷ []) k false)) last
              (subst (Shows base (source_pair inputs pairs (FromNode (length bits)))) (sym (get_or_push bits bit false (length bits) refl)) shown)
        ])
        j
        (omega (arith, lt, len))

    -- each node shows its bit
    nodes_shown : (j : ℕ) → j < length network.nodes → Shows base (source_pair inputs pairs (FromNode j)) (slice_index_or (node_values word [] network.nodes) j false)
    nodes_shown j lt =
        walk [] network.nodes
        (λ i node found. subst (λ k. slice_get network.nodes k ≡ Some node) (let same : i ≡ 0 + i = omega arith in same) found)
        complete.varying.reads_before
        (λ i within. absurd (omega arith))
        j
        (omega arith)

    -- what a node reads shows a word
    ins_shown : (k : ℕ) (node : Node) → slice_get network.nodes k ≡ Some node → ShowWord base (map (signal_pair inputs pairs) node.ins) (map (signal_value word (node_values word [] network.nodes)) node.ins)
    ins_shown k node at =
        signals_shown (node_values word [] network.nodes) (length network.nodes) nodes_shown node.ins
        (subst (λ n. All (λ (signal : Signal). IsSource network.inputs n signal.from) node.ins) (let same : 0 + length network.nodes ≡ length network.nodes = omega arith in same) (reads_at network.inputs 0 network.nodes complete.varying.reads_before k node at))
        (varies_at k node at)

    -- the outputs show the answer
    pub outputs_shown : ShowWord base output_pairs (answer_of network word)
    unfolding output_pairs
    outputs_shown =
        signals_shown (node_values word [] network.nodes) (length network.nodes) nodes_shown network.outputs complete.varying.outputs_exist complete.varying.no_constant_output

    -- ---- what waits for what

    module _ (v : Nets) (below : IsBelow v base) (supported : (c : StageCell) → Member c cells → v (out_of c) ≡ true → holds v c ≡ true) where
      node_case : (k : ℕ) (node : Node) → slice_get network.nodes k ≡ Some node → IsCase base v (map (signal_pair inputs pairs) node.ins) cells (map (signal_value word (node_values word [] network.nodes)) node.ins)
      node_case k node at = record {
        obeys = cells_obey;
        shown = ins_shown k node at;
        below = below;
        supported = record { each = λ c m. supported c (Member-from_Contains cells c m) };
      }

      signal_null : (signal : Signal) (from : SignalSource) → signal.from ≡ from → IsNull v (source_pair inputs pairs from) → IsNull v (signal_pair inputs pairs signal)
      signal_null signal from is null =
          IsNull-turned v (source_pair inputs pairs signal.from) signal.inverted (subst (λ f. IsNull v (source_pair inputs pairs f)) (sym is) null)

      -- where a source that reaches an output is NULL, some output is NULL
      pub null_reaches : (from : SignalSource) → Reaches network waits (value_at network word) from → IsNull v (source_pair inputs pairs from) → list_all (has_data v) output_pairs ≡ false
      unfolding output_pairs
      null_reaches _ (output from given) null =
          list_all-fails (has_data v) (signal_pair inputs pairs given.signal) (Member-map (signal_pair inputs pairs) given.signal (Member-from_Contains network.outputs given.signal given.given))
          (null_has_none v (signal_pair inputs pairs given.signal) (signal_null given.signal from given.is null))
      null_reaches _ (waiter from await reach) null =
          let within : await.by < length network.nodes = slice_get_within network.nodes await.by await.node await.stands in
          let (part, found) = part_at await.by within in
          let (pair, paired) = pair_at await.by within in
          let template = laid.templates await.by await.node part pair await.stands found paired in
          let here : slice_get (map (signal_pair inputs pairs) await.node.ins) await.awaits.place ≡ Some (signal_pair inputs pairs await.awaits.signal) = slice_get-map (signal_pair inputs pairs) await.node.ins await.awaits.place ∙ ap (option_map (signal_pair inputs pairs)) await.awaits.reads in
          let out_null =
          template.needs base v (map (signal_value word (node_values word [] network.nodes)) await.node.ins) (node_case await.by await.node await.stands) await.awaits.place (slice_get_within (map (signal_pair inputs pairs) await.node.ins) await.awaits.place (signal_pair inputs pairs await.awaits.signal) here) await.awaits.passes
          (subst (IsNull v) (sym (get_or_from_slice_get (map (signal_pair inputs pairs) await.node.ins) await.awaits.place (signal_pair inputs pairs await.awaits.signal) no_rails here)) (signal_null await.awaits.signal from await.awaits.is null)) in
          null_reaches (FromNode await.by) reach (subst (IsNull v) (sym (get_or_from_slice_get pairs await.by pair no_rails paired)) out_null)

      -- where a gate that is high in base is low, some output is NULL
      pub low_gate_reaches : (c : StageCell) → Member c cells → base (out_of c) ≡ true → v (out_of c) ≡ false → list_all (has_data v) output_pairs ≡ false
      low_gate_reaches c m high low =
          let (part, in_parts, in_part) = member_of_flat_map (λ (p : List StageCell). p) laid.parts c (subst (Member c) laid.joined m) in
          let (k, found) = slice_get-from_Contains laid.parts part (Contains-from_Member part in_parts) in
          let within : k < length laid.parts = slice_get_within laid.parts k part found in
          let count : length laid.parts ≡ length network.nodes = laid.as_many in
          let inside : k < length network.nodes = omega (arith, within, count) in
          let (node, at) = slice_get-some network.nodes k inside in
          let (pair, paired) = pair_at k inside in
          let template = laid.templates k node part pair at found paired in
          let out_null = template.observed base v (map (signal_value word (node_values word [] network.nodes)) node.ins) (node_case k node at) c (Contains-from_Member c in_part) high low in
          null_reaches (FromNode k) (node_reaches network waits covered complete.varying.reads_before word k inside) (subst (IsNull v) (sym (get_or_from_slice_get pairs k pair no_rails paired)) out_null)
