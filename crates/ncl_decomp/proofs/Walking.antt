-- The nodes of a network, one node further.
use Rattle.ncl_decomp.proofs.Terms.{AddsNode, All, All-append, All-map, All-push, All-weaker, AreSplit, AreVarying, Becomes, Bool, Const, Contains, FromNode, Input, IsNarrow, IsOfTwoOr, IsSource, List, Node, ReadBefore, Signal, SignalSource, [], ap, arith, cond, cost_of_inputs, cover_value, false, get_or, get_or_append_left, get_or_push, image_of, image_of_source, inl, inr, is_constant, length, length-append, length-node_values, length_push, map, map_push, node_value, node_values, node_values-push, not, refl, signal_value, source_value, subst, suc, sum_by-append, sum_by_push, sym, true, turned, weight_of_rows, zero, zero-add, ℕ, ◌++◌, ◌+◌, ◌∙◌, ◌∷◌, ◌≡◌}
use Rattle.ncl_decomp.proofs.RowLiterals.{turned_value}
use Rattle.ncl_decomp.proofs.Later.{node_values-append, signals_kept, ReadBefore-append, AreVarying-more}

-- ---- the images of signals

by_value : (word bits : List Bool) (inverted : Bool) (signal : Signal) → signal_value word bits (cond inverted (turned signal) signal) ≡ cond inverted (not (signal_value word bits signal)) (signal_value word bits signal)
by_value word bits true signal = turned_value word bits signal
by_value word bits false signal = refl

by_from : (inverted : Bool) (signal : Signal) → (cond inverted (turned signal) signal).from ≡ signal.from
by_from true signal = refl
by_from false signal = refl

-- where the images of nodes have the bits of the nodes, so have those of signals
source_image_value : (word old new : List Bool) (images : List Signal) (from : SignalSource) → map (signal_value word new) images ≡ old → signal_value word new (image_of_source images from) ≡ source_value word old from
source_image_value word old new images (Input i) is = refl
source_image_value word old new images (FromNode k) is =
    sym (map_at (signal_value word new) images k (record { from = Const false; inverted = false })) ∙ ap (λ bits. get_or bits k false) is
  where
    map_at : (f : Signal → Bool) (xs : List Signal) (k : ℕ) (d : Signal) → get_or (map f xs) k (f d) ≡ f (get_or xs k d)
    map_at f [] k d = refl
    map_at f (x ∷ xs) zero d = refl
    map_at f (x ∷ xs) (suc k) d = map_at f xs k d
source_image_value word old new images (Const bit) is = refl

image_value : (word old new : List Bool) (images : List Signal) (signal : Signal) → map (signal_value word new) images ≡ old → signal_value word new (image_of images signal) ≡ signal_value word old signal
image_value word old new images signal is =
    by_value word new signal.inverted (image_of_source images signal.from)
    ∙ ap (λ bit. cond signal.inverted (not bit) bit) (source_image_value word old new images signal.from is)

pub image_values : (word old new : List Bool) (images signals : List Signal) → map (signal_value word new) images ≡ old → map (signal_value word new) (map (image_of images) signals) ≡ map (signal_value word old) signals
image_values word old new images [] is = refl
image_values word old new images (s ∷ signals) is = λ i. image_value word old new images s is i ∷ image_values word old new images signals is i

source_image_exists : (inputs count : ℕ) (images : List Signal) (from : SignalSource) → AreVarying inputs count images → IsSource inputs (length images) from → IsSource inputs count (image_of_source images from).from
source_image_exists inputs count images (Input i) varying there = there
source_image_exists inputs count images (FromNode k) varying there = varying.exist k (record { from = Const false; inverted = false }) there
source_image_exists inputs count images (Const bit) varying there = tt

source_image_varies : (inputs count : ℕ) (images : List Signal) (from : SignalSource) → AreVarying inputs count images → IsSource inputs (length images) from → is_constant from ≡ false → is_constant (image_of_source images from).from ≡ false
source_image_varies inputs count images (Input i) varying there varies = refl
source_image_varies inputs count images (FromNode k) varying there varies = varying.vary k (record { from = Const false; inverted = false }) there
source_image_varies inputs count images (Const bit) varying there varies = varies

pub images_exist : (inputs count : ℕ) (images signals : List Signal) → AreVarying inputs count images → All (λ (s : Signal). IsSource inputs (length images) s.from) signals → All (λ (s : Signal). IsSource inputs count s.from) (map (image_of images) signals)
images_exist inputs count images signals varying exist =
    All-map (λ (s : Signal). IsSource inputs count s.from) (image_of images) signals
    (All-weaker (λ (s : Signal). IsSource inputs (length images) s.from) (λ (s : Signal). IsSource inputs count (image_of images s).from) (λ s there. subst (IsSource inputs count) (sym (by_from s.inverted (image_of_source images s.from))) (source_image_exists inputs count images s.from varying there)) signals exist)

pub images_vary : (inputs count : ℕ) (images signals : List Signal) → AreVarying inputs count images → All (λ (s : Signal). IsSource inputs (length images) s.from) signals → All (λ (s : Signal). is_constant s.from ≡ false) signals → AreVarying inputs count (map (image_of images) signals)
images_vary inputs count images signals varying exist vary = record {
  exist = images_exist inputs count images signals varying exist;
  vary = All-map (λ (s : Signal). is_constant s.from ≡ false) (image_of images) signals (λ k d within.
      let s : Signal = get_or signals k d in
      ap is_constant (by_from s.inverted (image_of_source images s.from)) ∙ source_image_varies inputs count images s.from varying (exist k d within) (vary k d within));
}

-- ---- one node further

-- what stood among some of the nodes stands among more
kinds_among : (some more : List Node) → ((node : Node) → Contains some node → Contains more node) → (node : Node) → IsOfTwoOr some node → IsOfTwoOr more node
kinds_among some more within node (inl two) = inl two
kinds_among some more within node (inr (from, among, kept)) = inr (from, within from among, kept)

first_part : (xs ys : List Node) (x : Node) → Contains xs x → Contains (xs ++ ys) x
first_part xs ys x (k, lt, at) = (k, omega (arith, length-append xs ys), get_or_append_left xs ys x k lt ∙ at)

second_part : (xs : List Node) (node x : Node) → Contains (node ∷ []) x → Contains (xs ++ node ∷ []) x
second_part xs node x (zero, lt, at) = (length xs, omega (arith, length_push xs node), get_or_push xs node x (length xs) refl ∙ at)
second_part xs node x (suc k, lt, at) = absurd (omega arith)

module _ (inputs : ℕ) (done nodes : List Node) (images : List Signal) (split : AreSplit inputs done nodes images) (node : Node) (ins : List Signal) (new : List Node) (image : Signal) (is : ins ≡ map (image_of images) node.ins) (exist : All (λ (s : Signal). IsSource inputs (length done) s.from) node.ins) (vary : All (λ (s : Signal). is_constant s.from ≡ false) node.ins) (adds : AddsNode ins node nodes new image) where
  known : All (λ (s : Signal). IsSource inputs (length images) s.from) node.ins
  known = subst (λ n. All (λ (s : Signal). IsSource inputs n s.from) node.ins) (sym split.as_many) exist

  became : Becomes inputs (length nodes) ins node adds.made image
  unfolding known
  became =
      adds.becomes inputs (subst (AreVarying inputs (length nodes)) (sym is) (images_vary inputs (length nodes) images node.ins split.varying known vary))

  more_values : (word : List Bool) → map (signal_value word (node_values word [] (nodes ++ adds.made))) (images ++ image ∷ []) ≡ node_values word [] (done ++ node ∷ [])
  more_values word =
      let old : List Bool = node_values word [] done in
      let bits : List Bool = node_values word [] nodes in
      let count : length bits ≡ length nodes = omega (arith, length-node_values word [] nodes) in
      let stays : map (signal_value word (node_values word bits adds.made)) images ≡ map (signal_value word bits) images = signals_kept inputs word bits adds.made images (subst (λ n. All (λ (s : Signal). IsSource inputs n s.from) images) (sym count) split.varying.exist) in
      let in_bits : map (signal_value word bits) ins ≡ map (signal_value word old) node.ins = ap (map (signal_value word bits)) is ∙ image_values word old bits images node.ins (split.values word) in
      let here : signal_value word (node_values word bits adds.made) image ≡ node_value word old node = became.value word bits count ∙ ap (cover_value node.on node.rows) in_bits in
      ap (λ b. map (signal_value word b) (images ++ image ∷ [])) (node_values-append word [] nodes adds.made)
      ∙ map_push (signal_value word (node_values word bits adds.made)) images image
      ∙ (λ i. (stays ∙ split.values word) i ++ here i ∷ [])
      ∙ sym (node_values-push word [] done node)

  more_split : AreSplit inputs (done ++ node ∷ []) (nodes ++ adds.made) (images ++ image ∷ [])
  more_split =
      let whole : length (nodes ++ adds.made) ≡ length nodes + length adds.made = length-append nodes adds.made in
      let weighs = sum_by_push (λ (node : Node). weight_of_rows node.rows) done node in
      let old : AreVarying inputs (length (nodes ++ adds.made)) images = AreVarying-more inputs (length nodes) (length (nodes ++ adds.made)) images (omega (arith, whole)) split.varying in
      record {
        as_many = omega (arith, length_push images image, length_push done node, split.as_many);
        varying = record {
          exist = All-push (λ (s : Signal). IsSource inputs (length (nodes ++ adds.made)) s.from) images image old.exist (subst (λ n. IsSource inputs n image.from) (sym whole) became.exists);
          vary = All-push (λ (s : Signal). is_constant s.from ≡ false) images image old.vary became.varies;
        };
        values = more_values;
        narrow = All-append IsNarrow nodes adds.made split.narrow became.narrow;
        kinds = All-append (IsOfTwoOr (done ++ node ∷ [])) nodes adds.made
            (All-weaker (IsOfTwoOr done) (IsOfTwoOr (done ++ node ∷ [])) (kinds_among done (done ++ node ∷ []) (first_part done (node ∷ []))) nodes split.kinds)
            (All-weaker (IsOfTwoOr (node ∷ [])) (IsOfTwoOr (done ++ node ∷ [])) (kinds_among (node ∷ []) (done ++ node ∷ []) (second_part done node)) adds.made became.kinds);
        reads_before = ReadBefore-append inputs 0 nodes adds.made split.reads_before (subst (λ n. ReadBefore inputs n adds.made) (sym (zero-add (length nodes))) became.reads_before);
        few = omega (arith, whole, weighs, split.few, adds.few);
        cost = omega (arith, weighs, sum_by-append (λ (node : Node). cost_of_inputs (length node.ins)) nodes adds.made, split.cost, became.cost);
      }

  pub AreSplit-more : (longer : List Signal) → longer ≡ images ++ image ∷ [] → AreSplit inputs (done ++ node ∷ []) new longer
  AreSplit-more longer pushed =
      subst (λ nodes. AreSplit inputs (done ++ node ∷ []) nodes longer) (sym adds.added) (subst (AreSplit inputs (done ++ node ∷ []) (nodes ++ adds.made)) (sym pushed) more_split)
