-- What the nodes of a tree are like.
use Rattle.ncl_decomp.proofs.Terms.{All, All-cons, All-head, All-nil, All-push, All-tail, And, AreVarying, IsNarrow, IsSource, IsSource-more, Join, Joint, List, Node, NodeTree, Or, ReadBefore, Signal, [], ap, arith, false, is_constant, length, more, node_signal, one, pair_node, refl, subst, sym, ℕ, ◌++◌, ◌+◌, ◌∷◌, ◌≡◌}
use Rattle.ncl_decomp.proofs.Pairs.{queue_there}

both : (P : Signal → Type 0) (s t : Signal) → P s → P t → All P (s ∷ t ∷ [])
both P s t first second = All-cons P s (t ∷ []) first (All-cons P t [] second (All-nil P))

-- a node over two signals is narrow
pub pair_narrow : (shape : Joint) (s t : Signal) → is_constant s.from ≡ false → is_constant t.from ≡ false → IsNarrow (pair_node shape s t)
pair_narrow And s t first second = record { two_inputs = omega arith; four_inputs = omega arith; no_constant = both (λ (x : Signal). is_constant x.from ≡ false) s t first second; some_row = omega arith; row_widths = All-cons (λ row. length row ≡ 2) _ [] refl (All-nil (λ row. length row ≡ 2)) }
pair_narrow Or s t first second = record { two_inputs = omega arith; four_inputs = omega arith; no_constant = both (λ (x : Signal). is_constant x.from ≡ false) s t first second; some_row = omega arith; row_widths = All-cons (λ row. length row ≡ 2) _ [] refl (All-nil (λ row. length row ≡ 2)) }
pair_narrow Join s t first second = record { two_inputs = omega arith; four_inputs = omega arith; no_constant = both (λ (x : Signal). is_constant x.from ≡ false) s t first second; some_row = omega arith; row_widths = All-cons (λ row. length row ≡ 2) _ [] refl (All-nil (λ row. length row ≡ 2)) }

pub pair_ins : (shape : Joint) (s t : Signal) → (pair_node shape s t).ins ≡ s ∷ t ∷ []
pair_ins And s t = refl
pair_ins Or s t = refl
pair_ins Join s t = refl

-- a tree over signals, after so many nodes: nodes of two inputs in order, one less than the signals
pub record IsTreeOver (inputs k : ℕ) (pending : List Signal) (nodes : List Node) (root : Signal) : Type 0 where
  pub narrow : All IsNarrow nodes
  pub pairs : All (λ (node : Node). length node.ins ≡ 2) nodes
  pub reads_before : ReadBefore inputs k nodes
  pub exists : IsSource inputs (k + length nodes) root.from
  pub varies : is_constant root.from ≡ false

varying_queue : (inputs k : ℕ) (s t : Signal) (rest : List Signal) → AreVarying inputs k (s ∷ t ∷ rest) → AreVarying inputs (k + 1) (rest ++ node_signal k ∷ [])
varying_queue inputs k s t rest varying = record {
  exist = queue_there inputs k s t rest varying.exist;
  vary = All-push (λ (x : Signal). is_constant x.from ≡ false) rest (node_signal k) (All-tail (λ (x : Signal). is_constant x.from ≡ false) t rest (All-tail (λ (x : Signal). is_constant x.from ≡ false) s (t ∷ rest) varying.vary)) refl;
}

pub tree_over : (inputs : ℕ) (shape : Joint) (k : ℕ) (pending : List Signal) (nodes : List Node) (root : Signal) → NodeTree shape k pending nodes root → AreVarying inputs k pending → IsTreeOver inputs k pending nodes root
tree_over inputs shape _ _ _ _ (one k signal) varying = record {
  narrow = All-nil IsNarrow;
  pairs = All-nil (λ (node : Node). length node.ins ≡ 2);
  reads_before = tt;
  exists = IsSource-more inputs k (k + 0) signal.from (omega arith) (All-head (λ (x : Signal). IsSource inputs k x.from) signal [] varying.exist);
  varies = All-head (λ (x : Signal). is_constant x.from ≡ false) signal [] varying.vary;
}
tree_over inputs shape _ _ _ _ (more k s t rest nodes root tree) varying =
    let later = tree_over inputs shape (k + 1) (rest ++ node_signal k ∷ []) nodes root tree (varying_queue inputs k s t rest varying) in
    let first : IsSource inputs k s.from = All-head (λ (x : Signal). IsSource inputs k x.from) s (t ∷ rest) varying.exist in
    let second : IsSource inputs k t.from = All-head (λ (x : Signal). IsSource inputs k x.from) t rest (All-tail (λ (x : Signal). IsSource inputs k x.from) s (t ∷ rest) varying.exist) in
    let first_varies : is_constant s.from ≡ false = All-head (λ (x : Signal). is_constant x.from ≡ false) s (t ∷ rest) varying.vary in
    let second_varies : is_constant t.from ≡ false = All-head (λ (x : Signal). is_constant x.from ≡ false) t rest (All-tail (λ (x : Signal). is_constant x.from ≡ false) s (t ∷ rest) varying.vary) in
    let node : Node = pair_node shape s t in
    record {
      narrow = All-cons IsNarrow node nodes (pair_narrow shape s t first_varies second_varies) later.narrow;
      pairs = All-cons (λ (node : Node). length node.ins ≡ 2) node nodes (ap length (pair_ins shape s t)) later.pairs;
      reads_before = (subst (All (λ (x : Signal). IsSource inputs k x.from)) (sym (pair_ins shape s t)) (both (λ (x : Signal). IsSource inputs k x.from) s t first second), later.reads_before);
      exists = IsSource-more inputs ((k + 1) + length nodes) (k + length (node ∷ nodes)) root.from (omega arith) later.exists;
      varies = later.varies;
    }
