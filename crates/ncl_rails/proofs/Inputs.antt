-- Which inputs a network reads, one step further.
use Rattle.ncl_rails.proofs.Terms.{All, All-from_members, All-weaker, AreVarying, Bool, Const, FromNode, Input, IsInputBelow, IsSource, IsVarying, List, Member, Member-filter, Member-map, Member-range, Network, Node, Signal, SignalSource, [], ap, append-nil, arith, below_of_range, cond, cond-false, cond-true, count_by-le-length, false, filter, filter-append, get_or, input_signal, is_constant, is_input_read, length, length-filter, length-map, length-range_with_len, map, map-append, member_of_map, not, range_with_len, range_with_len-more, refl, replicate, slice_get-get_or, subst, suc, sym, true, unread_signals, zero, ℕ, ◌++◌, ◌+◌, ◌<◌, ◌||◌, ◌∙◌, ◌∷◌, ◌≡◌, ◌≤◌}
use Rattle.ncl_rails.proofs.Lists.{filter_within}
use Rattle.ncl_rails.proofs.Composition.{reads_at}

-- ---- there are the inputs that are read

below : (inputs count : ℕ) (from : SignalSource) → IsSource inputs count from → IsInputBelow inputs from
below inputs count (Input i) there = there
below inputs count (FromNode k) there = tt
below inputs count (Const bit) there = tt

all_below : (inputs count : ℕ) (signals : List Signal) → All (λ (s : Signal). IsSource inputs count s.from) signals → All (λ (s : Signal). IsInputBelow inputs s.from) signals
all_below inputs count signals =
    All-weaker (λ (s : Signal). IsSource inputs count s.from) (λ (s : Signal). IsInputBelow inputs s.from) (λ s. below inputs count s.from) signals

pub outputs_below : (network : Network) → IsVarying network → All (λ (s : Signal). IsInputBelow network.inputs s.from) network.outputs
outputs_below network is = all_below network.inputs (length network.nodes) network.outputs is.outputs_exist

pub nodes_below : (network : Network) → IsVarying network → All (λ (node : Node). All (λ (s : Signal). IsInputBelow network.inputs s.from) node.ins) network.nodes
nodes_below network is k d lt =
    let node : Node = get_or network.nodes k d in
    all_below network.inputs (0 + length network.nodes) node.ins (reads_at network.inputs 0 network.nodes is.reads_before k node (slice_get-get_or network.nodes k d lt))

-- ---- marks

-- where nothing was marked, only what is marked now is
pub marked : (n i : ℕ) (now : Bool) (old : List Bool) → old ≡ replicate n false → (get_or old i false || now) ≡ now
marked n i now old fresh = ap (λ marks. get_or marks i false || now) fresh ∙ ap (λ b. b || now) (none n i)
  where
    none : (n i : ℕ) → get_or (replicate n false) i false ≡ false
    none zero i = refl
    none (suc n) zero = refl
    none (suc n) (suc i) = none n i

-- ---- one input further

more : (test : ℕ → Bool) (i : ℕ) → map input_signal (filter test (range_with_len 0 (i + 1))) ≡ map input_signal (filter test (range_with_len 0 i)) ++ map input_signal (cond (test i) (i ∷ []) [])
more test i =
    ap (λ is. map input_signal (filter test is)) (range_with_len-more 0 i)
    ∙ ap (map input_signal) (filter-append test (range_with_len 0 i) ((0 + i) ∷ []))
    ∙ map-append input_signal (filter test (range_with_len 0 i)) (filter test ((0 + i) ∷ []))
    ∙ ap (λ n. map input_signal (filter test (range_with_len 0 i)) ++ map input_signal (cond (test n) (n ∷ []) [])) (let same : 0 + i ≡ i = omega arith in same)

pub unread_more : (network : Network) (i : ℕ) (old new : List Signal) → is_input_read network i ≡ false → old ≡ map input_signal (filter (λ i. not (is_input_read network i)) (range_with_len 0 i)) → new ≡ old ++ input_signal i ∷ [] → new ≡ map input_signal (filter (λ i. not (is_input_read network i)) (range_with_len 0 (i + 1)))
unread_more network i old new unread before pushed =
    pushed ∙ ap (λ xs. xs ++ input_signal i ∷ []) before
    ∙ ap (λ rest. map input_signal (filter (λ i. not (is_input_read network i)) (range_with_len 0 i)) ++ map input_signal rest) (sym (cond-true (not (is_input_read network i)) (i ∷ []) [] (ap not unread)))
    ∙ sym (more (λ i. not (is_input_read network i)) i)

pub read_more : (network : Network) (i : ℕ) (old new : List Signal) → is_input_read network i ≡ true → old ≡ map input_signal (filter (λ i. not (is_input_read network i)) (range_with_len 0 i)) → new ≡ old → new ≡ map input_signal (filter (λ i. not (is_input_read network i)) (range_with_len 0 (i + 1)))
read_more network i old new read before same =
    same ∙ before ∙ sym (append-nil _)
    ∙ ap (λ rest. map input_signal (filter (λ i. not (is_input_read network i)) (range_with_len 0 i)) ++ map input_signal rest) (sym (cond-false (not (is_input_read network i)) (i ∷ []) [] (ap not read)))
    ∙ sym (more (λ i. not (is_input_read network i)) i)

-- what was read at a place
pub mark_at : (marks : List Bool) (i : ℕ) (b : Bool) → i < length marks → b ≡ get_or marks i b → get_or marks i false ≡ b
mark_at [] i b lt at = absurd (omega (arith, lt))
mark_at (x ∷ marks) zero b lt at = sym at
mark_at (x ∷ marks) (suc i) b lt at = mark_at marks i b (omega (arith, lt)) at

-- ---- the unread inputs

unread_by : (network : Network) (signal : Signal) → Member signal (unread_signals network) → (i : ℕ) × Member i (filter (λ i. not (is_input_read network i)) (range_with_len 0 network.inputs)) × (input_signal i ≡ signal)
unread_by network signal m =
    let (i, among, is) = member_of_map input_signal (filter (λ i. not (is_input_read network i)) (range_with_len 0 network.inputs)) signal m in
    (i, among, is)

-- they are inputs, no more than there are
pub unread_vary : (network : Network) → AreVarying network.inputs (length network.nodes) (unread_signals network)
unread_vary network = record {
  exist = All-from_members (λ (s : Signal). IsSource network.inputs (length network.nodes) s.from) (unread_signals network) (λ signal m.
      let (i, among, is) = unread_by network signal m in
      let within : i < network.inputs = omega (arith, below_of_range 0 network.inputs i (filter_within (λ i. not (is_input_read network i)) i (range_with_len 0 network.inputs) among)) in
      subst (λ (s : Signal). IsSource network.inputs (length network.nodes) s.from) is within);
  vary = All-from_members (λ (s : Signal). is_constant s.from ≡ false) (unread_signals network) (λ signal m.
      let (i, among, is) = unread_by network signal m in
      subst (λ (s : Signal). is_constant s.from ≡ false) is refl);
}

pub unread_few : (network : Network) → length (unread_signals network) ≤ network.inputs
unread_few network =
    let all : List ℕ = range_with_len 0 network.inputs in
    let test : ℕ → Bool = λ i. not (is_input_read network i) in
    omega (arith, length-map (filter test all) input_signal, length-filter test all, count_by-le-length test all, length-range_with_len 0 network.inputs)

pub unread_has : (network : Network) (i : ℕ) → i < network.inputs → is_input_read network i ≡ false → Member (input_signal i) (unread_signals network)
unread_has network i lt unread =
    Member-map input_signal i
    (Member-filter (λ i. not (is_input_read network i)) i (Member-range 0 network.inputs i (omega arith) (omega arith)) (ap not unread))
