-- The values of nodes of two inputs and of trees of them, and how many nodes a tree has.
use Rattle.ncl_decomp.proofs.Terms.{All, All-head, All-push, All-tail, And, Bool, Dash, IsSource, IsSource-more, Join, Joint, List, Node, NodeTree, One, Or, Signal, Zero, [], ap, arith, cover_value, false, get_or_push, length, length-append, length_push, list_all, list_all-append, list_any, list_any-append, more, node_signal, node_value, node_values, one, pair_node, refl, signal_value, signal_value-more, subst, sym, true, ℕ, ◌&&◌, ◌++◌, ◌+◌, ◌<◌, ◌||◌, ◌∙◌, ◌∷◌, ◌≡◌}

-- ---- the values of the nodes

and_cover : (a b : Bool) → cover_value true ((One ∷ One ∷ []) ∷ []) (a ∷ b ∷ []) ≡ (a && b)
and_cover true true = refl
and_cover true false = refl
and_cover false true = refl
and_cover false false = refl

or_cover : (a b : Bool) → cover_value false ((Zero ∷ Zero ∷ []) ∷ []) (a ∷ b ∷ []) ≡ (a || b)
or_cover true true = refl
or_cover true false = refl
or_cover false true = refl
or_cover false false = refl

join_cover : (a b : Bool) → cover_value true ((One ∷ Dash ∷ []) ∷ []) (a ∷ b ∷ []) ≡ a
join_cover true true = refl
join_cover true false = refl
join_cover false true = refl
join_cover false false = refl

pub and_value : (word bits : List Bool) (s t : Signal) → node_value word bits (pair_node And s t) ≡ (signal_value word bits s && signal_value word bits t)
and_value word bits s t = and_cover (signal_value word bits s) (signal_value word bits t)

pub or_value : (word bits : List Bool) (s t : Signal) → node_value word bits (pair_node Or s t) ≡ (signal_value word bits s || signal_value word bits t)
or_value word bits s t = or_cover (signal_value word bits s) (signal_value word bits t)

pub join_value : (word bits : List Bool) (s t : Signal) → node_value word bits (pair_node Join s t) ≡ signal_value word bits s
join_value word bits s t = join_cover (signal_value word bits s) (signal_value word bits t)

-- ---- the values of the trees

and_turn : (a b c : Bool) → (c && ((a && b) && true)) ≡ (a && (b && c))
and_turn true true true = refl
and_turn true true false = refl
and_turn true false true = refl
and_turn true false false = refl
and_turn false true true = refl
and_turn false true false = refl
and_turn false false true = refl
and_turn false false false = refl

or_turn : (a b c : Bool) → (c || ((a || b) || false)) ≡ (a || (b || c))
or_turn true true true = refl
or_turn true true false = refl
or_turn true false true = refl
or_turn true false false = refl
or_turn false true true = refl
or_turn false true false = refl
or_turn false false true = refl
or_turn false false false = refl

and_true : (b : Bool) → b ≡ (b && true)
and_true true = refl
and_true false = refl

or_false : (b : Bool) → b ≡ (b || false)
or_false true = refl
or_false false = refl

-- signals of earlier nodes keep their values
all_kept : (inputs : ℕ) (word bits extra : List Bool) (signals : List Signal) → All (λ (s : Signal). IsSource inputs (length bits) s.from) signals → list_all (signal_value word (bits ++ extra)) signals ≡ list_all (signal_value word bits) signals
all_kept inputs word bits extra [] known = refl
all_kept inputs word bits extra (s ∷ signals) known =
    let first : signal_value word (bits ++ extra) s ≡ signal_value word bits s = signal_value-more inputs word bits extra s (All-head (λ (x : Signal). IsSource inputs (length bits) x.from) s signals known) in
    let rest = all_kept inputs word bits extra signals (All-tail (λ (x : Signal). IsSource inputs (length bits) x.from) s signals known) in
    λ i. first i && rest i

any_kept : (inputs : ℕ) (word bits extra : List Bool) (signals : List Signal) → All (λ (s : Signal). IsSource inputs (length bits) s.from) signals → list_any (signal_value word (bits ++ extra)) signals ≡ list_any (signal_value word bits) signals
any_kept inputs word bits extra [] known = refl
any_kept inputs word bits extra (s ∷ signals) known =
    let first : signal_value word (bits ++ extra) s ≡ signal_value word bits s = signal_value-more inputs word bits extra s (All-head (λ (x : Signal). IsSource inputs (length bits) x.from) s signals known) in
    let rest = any_kept inputs word bits extra signals (All-tail (λ (x : Signal). IsSource inputs (length bits) x.from) s signals known) in
    λ i. first i || rest i

-- what the queue is of after a node, is known
pub queue_there : (inputs k : ℕ) (s t : Signal) (rest : List Signal) → All (λ (x : Signal). IsSource inputs k x.from) (s ∷ t ∷ rest) → All (λ (x : Signal). IsSource inputs (k + 1) x.from) (rest ++ node_signal k ∷ [])
queue_there inputs k s t rest known =
    let tail = All-tail (λ (x : Signal). IsSource inputs k x.from) t rest (All-tail (λ (x : Signal). IsSource inputs k x.from) s (t ∷ rest) known) in
    All-push (λ (x : Signal). IsSource inputs (k + 1) x.from) rest (node_signal k) (λ i d lt. IsSource-more inputs k (k + 1) _ (omega arith) (tail i d lt)) (let last : k < k + 1 = omega arith in last)

rest_there : (inputs k : ℕ) (s t : Signal) (rest : List Signal) → All (λ (x : Signal). IsSource inputs k x.from) (s ∷ t ∷ rest) → All (λ (x : Signal). IsSource inputs k x.from) rest
rest_there inputs k s t rest known = All-tail (λ (x : Signal). IsSource inputs k x.from) t rest (All-tail (λ (x : Signal). IsSource inputs k x.from) s (t ∷ rest) known)

-- a tree of conjunctions is 1 where all its leaves are
pub and_tree : (inputs : ℕ) (word bits : List Bool) (k : ℕ) (pending : List Signal) (nodes : List Node) (root : Signal) → NodeTree And k pending nodes root → length bits ≡ k → All (λ (s : Signal). IsSource inputs k s.from) pending → signal_value word (node_values word bits nodes) root ≡ list_all (signal_value word bits) pending
and_tree inputs word bits _ _ _ _ (one k signal) len known = and_true (signal_value word bits signal)
and_tree inputs word bits _ _ _ _ (more k s t rest nodes root tree) len known =
    let bit : Bool = node_value word bits (pair_node And s t) in
    let kept : list_all (signal_value word (bits ++ bit ∷ [])) rest ≡ list_all (signal_value word bits) rest = all_kept inputs word bits (bit ∷ []) rest (subst (λ n. All (λ (x : Signal). IsSource inputs n x.from) rest) (sym len) (rest_there inputs k s t rest known)) in
    let last : signal_value word (bits ++ bit ∷ []) (node_signal k) ≡ (signal_value word bits s && signal_value word bits t) = get_or_push bits bit false k len ∙ and_value word bits s t in
    and_tree inputs word (bits ++ bit ∷ []) (k + 1) (rest ++ node_signal k ∷ []) nodes root tree (length_push bits bit ∙ ap (λ n. n + 1) len) (queue_there inputs k s t rest known)
    ∙ list_all-append (signal_value word (bits ++ bit ∷ [])) rest (node_signal k ∷ [])
    ∙ (λ i. kept i && (last i && true))
    ∙ and_turn (signal_value word bits s) (signal_value word bits t) (list_all (signal_value word bits) rest)

-- a tree of disjunctions is 1 where some leaf is
pub or_tree : (inputs : ℕ) (word bits : List Bool) (k : ℕ) (pending : List Signal) (nodes : List Node) (root : Signal) → NodeTree Or k pending nodes root → length bits ≡ k → All (λ (s : Signal). IsSource inputs k s.from) pending → signal_value word (node_values word bits nodes) root ≡ list_any (signal_value word bits) pending
or_tree inputs word bits _ _ _ _ (one k signal) len known = or_false (signal_value word bits signal)
or_tree inputs word bits _ _ _ _ (more k s t rest nodes root tree) len known =
    let bit : Bool = node_value word bits (pair_node Or s t) in
    let kept : list_any (signal_value word (bits ++ bit ∷ [])) rest ≡ list_any (signal_value word bits) rest = any_kept inputs word bits (bit ∷ []) rest (subst (λ n. All (λ (x : Signal). IsSource inputs n x.from) rest) (sym len) (rest_there inputs k s t rest known)) in
    let last : signal_value word (bits ++ bit ∷ []) (node_signal k) ≡ (signal_value word bits s || signal_value word bits t) = get_or_push bits bit false k len ∙ or_value word bits s t in
    or_tree inputs word (bits ++ bit ∷ []) (k + 1) (rest ++ node_signal k ∷ []) nodes root tree (length_push bits bit ∙ ap (λ n. n + 1) len) (queue_there inputs k s t rest known)
    ∙ list_any-append (signal_value word (bits ++ bit ∷ [])) rest (node_signal k ∷ [])
    ∙ (λ i. kept i || (last i || false))
    ∙ or_turn (signal_value word bits s) (signal_value word bits t) (list_any (signal_value word bits) rest)

-- ---- how many nodes

pub tree_nodes : (kind : Joint) (k : ℕ) (pending : List Signal) (nodes : List Node) (root : Signal) → NodeTree kind k pending nodes root → length nodes + 1 ≡ length pending
tree_nodes kind _ _ _ _ (one k signal) = omega arith
tree_nodes kind _ _ _ _ (more k s t rest nodes root tree) =
    let later = tree_nodes kind (k + 1) (rest ++ node_signal k ∷ []) nodes root tree in
    omega (arith, later, length-append rest (node_signal k ∷ []))
