-- A walk over covers, one cover further.
use Rattle.ncl_network.proofs.Terms.{All, All-cons, All-nil, All-push, Bool, Const, Contains, Contains-push_cases, Cover, Fits, Folded, FromNode, HasSources, IfSome, IfSome_then, Input, IntoNode, IntoSignal, IsFolded, IsNode, IsSome, IsSource, IsWalked, List, MatchOption-at_some, Model, Node, None, Option, ReadBefore, Signal, SignalSource, Some, [], add-zero, ap, arith, cond, cover_value, eq-eqb, eqb-true, false, folded_value, get_or, get_or_append_left, get_or_from_slice_get, get_or_push, length, length_push, map, map_more, map_push, node_value, node_values, nodes_with, not, option_map, refl, same_Some, signal_value, signal_with, slice_get, slice_get-map, slice_get_within, source_value, subst, sum_by, sum_by_push, sym, take, true, weight_at, weight_of_folded, weight_of_rows, zero-add, ℕ, ⊎_elim, ⊤, ◌++◌, ◌+◌, ◌<◌, ◌==◌, ◌∙◌, ◌∷◌, ◌≡◌, ◌≤◌, ◌⊎◌}

-- ---- one node more

pub node_values-push : (word bits : List Bool) (nodes : List Node) (node : Node) → node_values word bits (nodes ++ node ∷ []) ≡ node_values word bits nodes ++ node_value word (node_values word bits nodes) node ∷ []
node_values-push word bits [] node = refl
node_values-push word bits (first ∷ nodes) node = node_values-push word (bits ++ node_value word bits first ∷ []) nodes node

pub length-node_values : (word bits : List Bool) (nodes : List Node) → length (node_values word bits nodes) ≡ length bits + length nodes
length-node_values word bits [] = omega arith
length-node_values word bits (node ∷ nodes) =
    omega (arith, length-node_values word (bits ++ node_value word bits node ∷ []) nodes, length_push bits (node_value word bits node))

-- a signal of nodes that there were keeps its bit
source_value-more : (inputs : ℕ) (word nodes more : List Bool) (from : SignalSource) → IsSource inputs (length nodes) from → source_value word (nodes ++ more) from ≡ source_value word nodes from
source_value-more inputs word nodes more (Input i) there = refl
source_value-more inputs word nodes more (FromNode k) there = get_or_append_left nodes more false k there
source_value-more inputs word nodes more (Const bit) there = refl

pub signal_value-more : (inputs : ℕ) (word nodes more : List Bool) (signal : Signal) → IsSource inputs (length nodes) signal.from → signal_value word (nodes ++ more) signal ≡ signal_value word nodes signal
signal_value-more inputs word nodes more signal there =
    ap (λ bit. cond signal.inverted (not bit) bit) (source_value-more inputs word nodes more signal.from there)

pub IsSource-more : (inputs a b : ℕ) (from : SignalSource) → a ≤ b → IsSource inputs a from → IsSource inputs b from
IsSource-more inputs a b (Input i) less there = there
IsSource-more inputs a b (FromNode k) less there = omega arith
IsSource-more inputs a b (Const bit) less there = tt

pub ReadBefore-push : (inputs place : ℕ) (nodes : List Node) (node : Node) → ReadBefore inputs place nodes → All (λ signal. IsSource inputs (place + length nodes) signal.from) node.ins → ReadBefore inputs place (nodes ++ node ∷ [])
ReadBefore-push inputs place [] node before reads =
    (subst (λ n. All (λ signal. IsSource inputs n signal.from) node.ins) (add-zero place) reads, tt)
ReadBefore-push inputs place (first ∷ nodes) node before reads =
    let count : place + length (first ∷ nodes) ≡ (place + 1) + length nodes = omega arith in
    (before.0, ReadBefore-push inputs (place + 1) nodes node before.1 (subst (λ n. All (λ signal. IsSource inputs n signal.from) node.ins) count reads))

-- ---- what is looked up

-- what holds of all that is known holds of what is looked up
pub found_all : (known : ℕ → Option Signal) (P : Signal → Type 0) → ((name : ℕ) → IfSome (known name) P) → (names : List ℕ) (found : List Signal) → map Some found ≡ map known names → All P found
found_all known P holds [] [] e = All-nil P
found_all known P holds [] (signal ∷ found) e = absurd cc
found_all known P holds (name ∷ names) [] e = absurd cc
found_all known P holds (name ∷ names) (signal ∷ found) e =
    let first : Some signal ≡ known name = cc in
    let rest : map Some found ≡ map known names = cc in
    All-cons P signal found (MatchOption-at_some ⊤ P signal (sym first) (holds name)) (found_all known P holds names found rest)

pub found_bits : (known : ℕ → Option Signal) (value : Signal → Bool) (bits : ℕ → Bool) → ((name : ℕ) → IfSome (known name) (λ signal. value signal ≡ bits name)) → (names : List ℕ) (found : List Signal) → map Some found ≡ map known names → map value found ≡ map bits names
found_bits known value bits holds [] [] e = refl
found_bits known value bits holds [] (signal ∷ found) e = absurd cc
found_bits known value bits holds (name ∷ names) [] e = absurd cc
found_bits known value bits holds (name ∷ names) (signal ∷ found) e =
    let first : Some signal ≡ known name = cc in
    let rest : map Some found ≡ map known names = cc in
    let here : value signal ≡ bits name = MatchOption-at_some ⊤ (λ signal. value signal ≡ bits name) signal (sym first) (holds name) in
    let there = found_bits known value bits holds names found rest in
    λ i. here i ∷ there i

-- one look-up more
pub found_more : (known : ℕ → Option Signal) (names : List ℕ) (i : ℕ) (found new : List Signal) (signal : Signal) → i < length names → map Some found ≡ map known (take i names) → known (get_or names i 0) ≡ Some signal → new ≡ found ++ signal ∷ [] → map Some new ≡ map known (take (i + 1) names)
found_more known names i found new signal within before at e =
    ap (map Some) e ∙ map_push Some found signal ∙ (λ j. before j ++ sym at j ∷ []) ∙ sym (map_more known names i 0 within)

-- ---- one signal more

module _ (known new : ℕ → Option Signal) (out : ℕ) (signal : Signal) (update : (q : ℕ) → new q ≡ cond (out == q) (Some signal) (known q)) where
  still_some : (q : ℕ) → IsSome (known q) → IsSome (new q)
  still_some q some =
      subst IsSome (sym (update q)) (elim (out == q) as (λ b. IsSome (cond b (Some signal) (known q))) [ true ↦ refl | false ↦ some ])

  now_some : IsSome (new out)
  now_some = subst IsSome (sym (update out ∙ ap (λ b. cond b (Some signal) (known out)) (eq-eqb out out refl))) refl

  updated : (P : ℕ → Signal → Type 0) → P out signal → (q : ℕ) → IfSome (known q) (P q) → IfSome (new q) (P q)
  updated P here q holds =
      subst (λ o. IfSome o (P q)) (sym (update q))
      (elim (out == q) as (λ b. (out == q) ≡ b → IfSome (cond b (Some signal) (known q)) (P q)) [
        | true ↦ λ e. subst (λ q. P q signal) (eqb-true out q e) here
        | false ↦ λ e. holds
      ] refl)

-- ---- one cover more

-- what a cover whose inputs are these signals folds into
pub record FoldsInto (cover : Cover) (ins : List Signal) (folded : Folded) : Type 0 where
  pub value : (word nodes : List Bool) → folded_value word nodes folded ≡ cover_value cover.on cover.rows (map (signal_value word nodes) ins)
  pub fine : IsFolded folded
  pub sources : (inputs count : ℕ) → All (λ signal. IsSource inputs count signal.from) ins → HasSources inputs count folded
  pub weight : weight_of_folded folded ≤ weight_of_rows cover.rows

abbrev pub weight_of_nodes : List Node → ℕ
weight_of_nodes nodes = sum_by (λ node. weight_of_rows node.rows) nodes

module _ (inputs : ℕ) (nodes : List Node) where
  length-with : (folded : Folded) → length (nodes_with nodes folded) ≤ length nodes + 1
  length-with (IntoSignal signal) = omega arith
  length-with (IntoNode node) = omega (arith, length_push nodes node)

  more-with : (folded : Folded) → length nodes ≤ length (nodes_with nodes folded)
  more-with (IntoSignal signal) = omega arith
  more-with (IntoNode node) = omega (arith, length_push nodes node)

  each-with : (folded : Folded) → IsFolded folded → All IsNode nodes → All IsNode (nodes_with nodes folded)
  each-with (IntoSignal signal) is each = each
  each-with (IntoNode node) is each = All-push IsNode nodes node each is

  before-with : (folded : Folded) → HasSources inputs (length nodes) folded → ReadBefore inputs 0 nodes → ReadBefore inputs 0 (nodes_with nodes folded)
  before-with (IntoSignal signal) sources before = before
  before-with (IntoNode node) sources before =
      ReadBefore-push inputs 0 nodes node before (subst (λ n. All (λ signal. IsSource inputs n signal.from) node.ins) (sym (zero-add (length nodes))) sources)

  weight-with : (folded : Folded) → weight_of_nodes (nodes_with nodes folded) ≡ weight_of_nodes nodes + weight_of_folded folded
  weight-with (IntoSignal signal) = omega arith
  weight-with (IntoNode node) = sum_by_push (λ node. weight_of_rows node.rows) nodes node

  source-with : (folded : Folded) → HasSources inputs (length nodes) folded → IsSource inputs (length (nodes_with nodes folded)) (signal_with nodes folded).from
  source-with (IntoSignal signal) sources = sources
  source-with (IntoNode node) sources = omega (arith, length_push nodes node)

  stays-with : (folded : Folded) (word : List Bool) (signal : Signal) → IsSource inputs (length nodes) signal.from → signal_value word (node_values word [] (nodes_with nodes folded)) signal ≡ signal_value word (node_values word [] nodes) signal
  stays-with (IntoSignal other) word signal there = refl
  stays-with (IntoNode node) word signal there =
      let bits : List Bool = node_values word [] nodes in
      let count : length bits ≡ length nodes = omega (arith, length-node_values word [] nodes) in
      ap (λ b. signal_value word b signal) (node_values-push word [] nodes node)
      ∙ signal_value-more inputs word bits (node_value word bits node ∷ []) signal (subst (λ n. IsSource inputs n signal.from) (sym count) there)

  value-with : (folded : Folded) (word : List Bool) → signal_value word (node_values word [] (nodes_with nodes folded)) (signal_with nodes folded) ≡ folded_value word (node_values word [] nodes) folded
  value-with (IntoSignal signal) word = refl
  value-with (IntoNode node) word =
      let bits : List Bool = node_values word [] nodes in
      let count : length bits ≡ length nodes = omega (arith, length-node_values word [] nodes) in
      ap (λ b. get_or b (length nodes) false) (node_values-push word [] nodes node)
      ∙ get_or_push bits (node_value word bits node) false (length nodes) count

-- the cover that is done last, or one before it
last_or_before : (done : List ℕ) (place at : ℕ) → Contains (done ++ place ∷ []) at → Contains done at ⊎ (place ≡ at)
last_or_before done place at there = Contains-push_cases done place at there

pub IsWalked-more : (model : Model) (known new : ℕ → Option Signal) (nodes : List Node) (done : List ℕ) (place : ℕ) (cover : Cover) (ins : List Signal) (folded : Folded) → slice_get model.covers place ≡ Some cover → map Some ins ≡ map known cover.ins → FoldsInto cover ins folded → ((q : ℕ) → new q ≡ cond (cover.out == q) (Some (signal_with nodes folded)) (known q)) → IsWalked model known nodes done → IsWalked model new (nodes_with nodes folded) (done ++ place ∷ [])
IsWalked-more model known new nodes done place cover ins folded at found into update walked =
    let inputs : ℕ = length model.inputs in
    let signal : Signal = signal_with nodes folded in
    let nodes' : List Node = nodes_with nodes folded in
    let in_place : place < length model.covers = slice_get_within model.covers place cover at in
    let reads : All (λ signal. IsSource inputs (length nodes) signal.from) ins = found_all known (λ signal. IsSource inputs (length nodes) signal.from) walked.sources cover.ins ins found in
    let sources : HasSources inputs (length nodes) folded = into.sources inputs (length nodes) reads in
    let weighs : weight_at model.covers place ≡ weight_of_rows cover.rows =
    get_or_from_slice_get (map (λ cover. weight_of_rows cover.rows) model.covers) place (weight_of_rows cover.rows) 0 (slice_get-map (λ cover. weight_of_rows cover.rows) model.covers place ∙ ap (option_map (λ cover. weight_of_rows cover.rows)) at) in
    record {
      inputs = λ i below. still_some known new cover.out signal update i (walked.inputs i below);
      covers = λ other other_cover there is.
          ⊎_elim
          (λ before. still_some known new cover.out signal update other_cover.out (walked.covers other other_cover before is))
          (λ same.
          let one : cover ≡ other_cover = same_Some cover other_cover (sym at ∙ ap (slice_get model.covers) same ∙ is) in
          subst (λ c. IsSome (new c.out)) one (now_some known new cover.out signal update))
          (last_or_before done place other there);
      sources = λ name.
          updated known new cover.out signal update (λ name signal. IsSource inputs (length nodes') signal.from) (source-with inputs nodes folded sources) name
          (IfSome_then (known name) {P = λ signal. IsSource inputs (length nodes) signal.from} {Q = λ signal. IsSource inputs (length nodes') signal.from} (walked.sources name) (λ s. IsSource-more inputs (length nodes) (length nodes') s.from (more-with inputs nodes folded)));
      values = λ word bits fits name.
          let values : List Bool = node_values word [] nodes in
          let in_bits : map (signal_value word values) ins ≡ map bits cover.ins = found_bits known (signal_value word values) bits (walked.values word bits fits) cover.ins ins found in
          let by_cover : bits cover.out ≡ cover_value cover.on cover.rows (map bits cover.ins) = cover_fits model word bits fits place cover in_place at in
          let out_bit : signal_value word (node_values word [] nodes') signal ≡ bits cover.out =
          value-with inputs nodes folded word ∙ into.value word values ∙ ap (cover_value cover.on cover.rows) in_bits ∙ sym by_cover in
          updated known new cover.out signal update (λ name signal. signal_value word (node_values word [] nodes') signal ≡ bits name) out_bit name
          (both_some (known name) (λ signal. IsSource inputs (length nodes) signal.from) (λ signal. signal_value word values signal ≡ bits name) (λ signal. signal_value word (node_values word [] nodes') signal ≡ bits name) (λ s there same. stays-with inputs nodes folded word s there ∙ same) (walked.sources name) (walked.values word bits fits name));
      each = each-with inputs nodes folded into.fine walked.each;
      reads_before = before-with inputs nodes folded sources walked.reads_before;
      few = omega (arith, length-with inputs nodes folded, walked.few, length_push done place);
      weight = omega (arith, weight-with inputs nodes folded, walked.weight, into.weight, weighs, sum_by_push (weight_at model.covers) done place);
    }
  where
    both_some : (o : Option Signal) (P Q R : Signal → Type 0) → ((x : Signal) → P x → Q x → R x) → IfSome o P → IfSome o Q → IfSome o R
    both_some None P Q R both p q = p
    both_some (Some x) P Q R both p q = both x p q

    cover_fits : (model : Model) (word : List Bool) (bits : ℕ → Bool) → Fits model word bits → (place : ℕ) (cover : Cover) → place < length model.covers → slice_get model.covers place ≡ Some cover → bits cover.out ≡ cover_value cover.on cover.rows (map bits cover.ins)
    cover_fits model word bits fits place cover in_place at =
        let is : get_or model.covers place cover ≡ cover = get_or_from_slice_get model.covers place cover cover at in
        subst (λ c. bits c.out ≡ cover_value c.on c.rows (map bits c.ins)) is (fits.covers place cover in_place)
