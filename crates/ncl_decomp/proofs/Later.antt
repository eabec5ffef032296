-- Nodes after others.
use Rattle.ncl_decomp.proofs.Terms.{All, All-head, All-tail, All-weaker, AreVarying, Bool, IsSource, IsSource-more, List, Node, ReadBefore, Signal, [], ap, append_assoc, arith, length, list_all, list_any, map, node_value, node_values, refl, signal_value, signal_value-more, subst, ℕ, ◌&&◌, ◌++◌, ◌+◌, ◌||◌, ◌∙◌, ◌∷◌, ◌≡◌, ◌≤◌}

pub node_values-append : (word bits : List Bool) (xs ys : List Node) → node_values word bits (xs ++ ys) ≡ node_values word (node_values word bits xs) ys
node_values-append word bits [] ys = refl
node_values-append word bits (x ∷ xs) ys = node_values-append word (bits ++ node_value word bits x ∷ []) xs ys

-- nodes only append bits
appended : (word bits : List Bool) (nodes : List Node) → (extra : List Bool) × (node_values word bits nodes ≡ bits ++ extra)
appended word bits [] = ([], none bits)
  where
    none : (bits : List Bool) → bits ≡ bits ++ []
    none [] = refl
    none (b ∷ bits) = ap (λ rest. b ∷ rest) (none bits)
appended word bits (x ∷ xs) =
    let (extra, is) = appended word (bits ++ node_value word bits x ∷ []) xs in
    (node_value word bits x ∷ extra, is ∙ append_assoc bits (node_value word bits x ∷ []) extra)

-- signals of earlier nodes keep their values
pub signal_kept : (inputs : ℕ) (word bits : List Bool) (nodes : List Node) (s : Signal) → IsSource inputs (length bits) s.from → signal_value word (node_values word bits nodes) s ≡ signal_value word bits s
signal_kept inputs word bits nodes s known =
    let (extra, is) = appended word bits nodes in
    ap (λ all. signal_value word all s) is ∙ signal_value-more inputs word bits extra s known

pub signals_kept : (inputs : ℕ) (word bits : List Bool) (nodes : List Node) (signals : List Signal) → All (λ (s : Signal). IsSource inputs (length bits) s.from) signals → map (signal_value word (node_values word bits nodes)) signals ≡ map (signal_value word bits) signals
signals_kept inputs word bits nodes [] known = refl
signals_kept inputs word bits nodes (s ∷ signals) known =
    let first = signal_kept inputs word bits nodes s (All-head (λ (x : Signal). IsSource inputs (length bits) x.from) s signals known) in
    let rest = signals_kept inputs word bits nodes signals (All-tail (λ (x : Signal). IsSource inputs (length bits) x.from) s signals known) in
    λ i. first i ∷ rest i

pub ReadBefore-append : (inputs k : ℕ) (xs ys : List Node) → ReadBefore inputs k xs → ReadBefore inputs (k + length xs) ys → ReadBefore inputs k (xs ++ ys)
ReadBefore-append inputs k [] ys first second = subst (λ n. ReadBefore inputs n ys) (let same : k + 0 ≡ k = omega arith in same) second
ReadBefore-append inputs k (x ∷ xs) ys first second =
    (first.0, ReadBefore-append inputs (k + 1) xs ys first.1 (subst (λ n. ReadBefore inputs n ys) (let same : k + length (x ∷ xs) ≡ (k + 1) + length xs = omega arith in same) second))

pub All-sources : (inputs a b : ℕ) (signals : List Signal) → a ≤ b → All (λ (s : Signal). IsSource inputs a s.from) signals → All (λ (s : Signal). IsSource inputs b s.from) signals
All-sources inputs a b signals less known k d within = IsSource-more inputs a b _ less (known k d within)

pub AreVarying-more : (inputs a b : ℕ) (signals : List Signal) → a ≤ b → AreVarying inputs a signals → AreVarying inputs b signals
AreVarying-more inputs a b signals less varying =
    record { exist = All-sources inputs a b signals less varying.exist; vary = varying.vary }

-- products of earlier signals, and sums of them, keep their values
pub all_same : (inputs : ℕ) (word bits : List Bool) (nodes : List Node) (signals : List Signal) → All (λ (s : Signal). IsSource inputs (length bits) s.from) signals → list_all (signal_value word (node_values word bits nodes)) signals ≡ list_all (signal_value word bits) signals
all_same inputs word bits nodes [] known = refl
all_same inputs word bits nodes (s ∷ signals) known =
    let first = signal_kept inputs word bits nodes s (All-head (λ (x : Signal). IsSource inputs (length bits) x.from) s signals known) in
    let rest = all_same inputs word bits nodes signals (All-tail (λ (x : Signal). IsSource inputs (length bits) x.from) s signals known) in
    λ i. first i && rest i

pub sum_same : (inputs : ℕ) (word bits : List Bool) (nodes : List Node) (sum : List (List Signal)) → All (AreVarying inputs (length bits)) sum → list_any (list_all (signal_value word (node_values word bits nodes))) sum ≡ list_any (list_all (signal_value word bits)) sum
sum_same inputs word bits nodes [] varying = refl
sum_same inputs word bits nodes (product ∷ sum) varying =
    let first = all_same inputs word bits nodes product (All-head (AreVarying inputs (length bits)) product sum varying).exist in
    let rest = sum_same inputs word bits nodes sum (All-tail (AreVarying inputs (length bits)) product sum varying) in
    λ i. first i || rest i

pub All-varying-more : (inputs a b : ℕ) (sum : List (List Signal)) → a ≤ b → All (AreVarying inputs a) sum → All (AreVarying inputs b) sum
All-varying-more inputs a b sum less varying =
    All-weaker (AreVarying inputs a) (AreVarying inputs b) (λ signals. AreVarying-more inputs a b signals less) sum varying
