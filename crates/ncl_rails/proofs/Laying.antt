-- Nodes that are laid out, one node further.
use Rattle.ncl_rails.proofs.Terms.{AddsAmong, All, All-append, All-from_members, All-head, All-nil, All-tail, AreLaidOut, Bool, Const, Contains, Contains-from_Member, FromNode, Input, IsComplete, IsInOrder, IsNarrow, IsSource, IsTemplateAmong, List, Member, Member-append_cases, Member-append_left, Member-append_right, Member-from_Contains, Member-get_or, NetId, Network, Node, Rails, ReadBefore, Signal, SignalSource, Some, StageCell, [], among_more, ap, append-nil, append_assoc, append_split, arith, arity_of, cases_lt, cond, cost_of_inputs, cost_of_nodes, exchanged, false, flat_map, flat_map-append, flat_map-cons, get_or, get_or_append_left, here, inl, input_pair, input_pairs, inr, is_constant, length, length-append, length-map-range_with_len, length-take-le, length_push, map, map-append, member_cases, member_of_map, nets_of, no_rails, node_function, out_of, pushed_last, rail_nets, rail_nets-append, rails_within, refl, signal_pair, slice_get, slice_get-get_or, slice_get_within, source_pair, subst, suc, sum_by-take-le, sum_by_push, sym, take, take_more, there, true, zero, ℕ, ◌++◌, ◌+◌, ◌<◌, ◌∙◌, ◌∷◌, ◌≡◌, ◌≤◌}
use Rattle.ncl_rails.proofs.Lists.{at_member, stands_before}
use Rattle.ncl_rails.proofs.Covering.{reads_before_at}
use Rattle.ncl_rails.proofs.Composition.{reads_at}

-- ---- the nets that are known

pub nets_of-append : (inputs : List Rails) (cells more : List StageCell) → nets_of inputs (cells ++ more) ≡ nets_of inputs cells ++ map out_of more
nets_of-append inputs cells more = ap (λ outs. rail_nets inputs ++ outs) (map-append out_of cells more) ∙ sym (append_assoc (rail_nets inputs) (map out_of cells) (map out_of more))

pub known_left : (inputs : List Rails) (cells more : List StageCell) (net : ℕ) → Contains (nets_of inputs cells) net → Contains (nets_of inputs (cells ++ more)) net
known_left inputs cells more net known =
    Contains-from_Member net (subst (Member net) (sym (nets_of-append inputs cells more)) (Member-append_left net (map out_of more) (Member-from_Contains (nets_of inputs cells) net known)))

known_right : (inputs : List Rails) (cells more : List StageCell) (net : ℕ) → Contains (map out_of more) net → Contains (nets_of inputs (cells ++ more)) net
known_right inputs cells more net driven =
    Contains-from_Member net (subst (Member net) (sym (nets_of-append inputs cells more)) (Member-append_right (nets_of inputs cells) net (Member-from_Contains (map out_of more) net driven)))

-- both nets of a pair are known
pub record IsKnown (nets : List ℕ) (r : Rails) : Type 0 where
  pub zero : Contains nets r.zero.0
  pub one : Contains nets r.one.0

exchanged_known : (nets : List ℕ) (inverted : Bool) (r : Rails) → IsKnown nets r → IsKnown nets (cond inverted (exchanged r) r)
exchanged_known nets true r known = record { zero = known.one; one = known.zero }
exchanged_known nets false r known = known

pub rail_known : (nets : List ℕ) (rs : List Rails) → ((r : Rails) → Member r rs → IsKnown nets r) → (net : ℕ) → Member net (rail_nets rs) → Contains nets net
rail_known nets [] each net m = elim m [ ]
rail_known nets (r ∷ rs) each _ here = (each r here).zero
rail_known nets (r ∷ rs) each _ (there here) = (each r here).one
rail_known nets (r ∷ rs) each net (there (there m)) = rail_known nets rs (λ x n. each x (there n)) net m

-- ---- nodes

pub AreLaidOut-none : (inputs : List Rails) (waits : ℕ → List Bool → ℕ → Bool) → AreLaidOut inputs waits [] [] []
AreLaidOut-none inputs waits = record {
  parts = [];
  as_many = refl;
  pairs_as_many = refl;
  joined = refl;
  templates = λ k node part pair at found paired. absurd cc;
  arities = All-nil (λ (c : StageCell). length c.ins.items ≡ arity_of c.kind);
  in_order = λ before after cell is. absurd (nothing before after cell is);
  driven = All-nil (Contains (nets_of inputs []));
  few = omega arith;
}
  where
    nothing : (before after : List StageCell) (cell : StageCell) → [] ≡ before ++ cell ∷ after → ⊥
    nothing [] after cell is = cc
    nothing (c ∷ before) after cell is = cc

-- the pairs of signals of earlier nodes stay
source_stays : (inputs pairs : List Rails) (out : Rails) (n : ℕ) (from : SignalSource) → IsSource n (length pairs) from → source_pair inputs (pairs ++ out ∷ []) from ≡ source_pair inputs pairs from
source_stays inputs pairs out n (Input i) exist = refl
source_stays inputs pairs out n (FromNode k) exist = get_or_append_left pairs (out ∷ []) no_rails k exist
source_stays inputs pairs out n (Const bit) exist = refl

pairs_stay : (inputs pairs : List Rails) (out : Rails) (n : ℕ) (signals : List Signal) → All (λ (s : Signal). IsSource n (length pairs) s.from) signals → map (signal_pair inputs (pairs ++ out ∷ [])) signals ≡ map (signal_pair inputs pairs) signals
pairs_stay inputs pairs out n [] exist = refl
pairs_stay inputs pairs out n (s ∷ signals) exist =
    let first = source_stays inputs pairs out n s.from (All-head (λ (x : Signal). IsSource n (length pairs) x.from) s signals exist) in
    let rest = pairs_stay inputs pairs out n signals (All-tail (λ (x : Signal). IsSource n (length pairs) x.from) s signals exist) in
    λ i. cond s.inverted (exchanged (first i)) (first i) ∷ rest i

-- what a signal of an input or an earlier node is shown at, is known
module _ (inputs : List Rails) (waits : ℕ → List Bool → ℕ → Bool) (done : List Node) (cells : List StageCell) (pairs : List Rails) (laid : AreLaidOut inputs waits done cells pairs) where
  pairs_known : (r : Rails) → Member r pairs → IsKnown (nets_of inputs cells) r
  pairs_known r m =
      let (first, second) = rails_within r m in
      record {
        zero = at_member (Contains (nets_of inputs cells)) (rail_nets pairs) laid.driven r.zero.0 (Contains-from_Member r.zero.0 first);
        one = at_member (Contains (nets_of inputs cells)) (rail_nets pairs) laid.driven r.one.0 (Contains-from_Member r.one.0 second);
      }

  inputs_known : (r : Rails) → Member r inputs → IsKnown (nets_of inputs cells) r
  inputs_known r m =
      let (first, second) = rails_within r m in
      record {
        zero = Contains-from_Member r.zero.0 (Member-append_left r.zero.0 (map out_of cells) first);
        one = Contains-from_Member r.one.0 (Member-append_left r.one.0 (map out_of cells) second);
      }

  source_known : (from : SignalSource) → IsSource (length inputs) (length pairs) from → is_constant from ≡ false → IsKnown (nets_of inputs cells) (source_pair inputs pairs from)
  source_known (Input i) exist varies = inputs_known (get_or inputs i no_rails) (Member-get_or inputs i no_rails exist)
  source_known (FromNode k) exist varies = pairs_known (get_or pairs k no_rails) (Member-get_or pairs k no_rails exist)
  source_known (Const bit) exist varies = absurd cc

  pub signals_known : (signals : List Signal) → All (λ (s : Signal). IsSource (length inputs) (length pairs) s.from) signals → All (λ (s : Signal). is_constant s.from ≡ false) signals → (r : Rails) → Member r (map (signal_pair inputs pairs) signals) → IsKnown (nets_of inputs cells) r
  signals_known signals exist varies r m =
      let (s, among, is) = member_of_map (signal_pair inputs pairs) signals r m in
      subst (IsKnown (nets_of inputs cells)) is
      (exchanged_known (nets_of inputs cells) s.inverted (source_pair inputs pairs s.from)
      (source_known s.from (at_member (λ (x : Signal). IsSource (length inputs) (length pairs) x.from) signals exist s (Contains-from_Member s among)) (at_member (λ (x : Signal). is_constant x.from ≡ false) signals varies s (Contains-from_Member s among))))

  -- ---- one node further

  module _ (node : Node) (new : List StageCell) (out : Rails) (before : ReadBefore (length inputs) 0 done) (exist : All (λ (s : Signal). IsSource (length inputs) (length done) s.from) node.ins) (narrow : IsNarrow node) (adds : AddsAmong (node_function node) (map (signal_pair inputs pairs) node.ins) (waits (length done)) (cost_of_inputs (length node.ins)) cells new out) where
    ins_known : (r : Rails) → Member r (map (signal_pair inputs pairs) node.ins) → IsKnown (nets_of inputs cells) r
    ins_known = signals_known node.ins (subst (λ n. All (λ (s : Signal). IsSource (length inputs) n s.from) node.ins) (sym laid.pairs_as_many) exist) narrow.no_constant

    templates : (k : ℕ) (other : Node) (part : List StageCell) (pair : Rails) → slice_get (done ++ node ∷ []) k ≡ Some other → slice_get (laid.parts ++ adds.made ∷ []) k ≡ Some part → slice_get (pairs ++ out ∷ []) k ≡ Some pair → IsTemplateAmong (cells ++ adds.made) (node_function other) (map (signal_pair inputs (pairs ++ out ∷ [])) other.ins) (waits k) part pair
    templates k other part pair at found paired =
        let within : k < length (done ++ node ∷ []) = slice_get_within (done ++ node ∷ []) k other at in
        let count = length_push done node in
        let as_many = laid.as_many in
        let pairs_as_many = laid.pairs_as_many in
        elim (cases_lt k (length done)) [
          | inl old ↦
              let stands : slice_get done k ≡ Some other = stands_before done node k other old at in
              let reads : All (λ (s : Signal). IsSource (length inputs) (length pairs) s.from) other.ins = subst (λ n. All (λ (s : Signal). IsSource (length inputs) n s.from) other.ins) (let same : 0 + length done ≡ length pairs = omega (arith, pairs_as_many) in same) (reads_at (length inputs) 0 done before k other stands) in
              subst (λ rs. IsTemplateAmong (cells ++ adds.made) (node_function other) rs (waits k) part pair) (sym (pairs_stay inputs pairs out (length inputs) other.ins reads))
              (among_more (cells ++ adds.made) cells (λ c m. Contains-from_Member c (Member-append_left c adds.made (Member-from_Contains cells c m))) (node_function other) (map (signal_pair inputs pairs) other.ins) (waits k) part pair
              (laid.templates k other part pair stands (stands_before laid.parts adds.made k part (omega (arith, old, as_many)) found) (stands_before pairs out k pair (omega (arith, old, pairs_as_many)) paired)))
          | inr past ↦
              let last : k ≡ length done = omega (arith, within, count, past) in
              let last_part : k ≡ length laid.parts = omega (arith, last, as_many) in
              let last_pair : k ≡ length pairs = omega (arith, last, pairs_as_many) in
              let same_node : node ≡ other = pushed_last done node other (subst (λ n. slice_get (done ++ node ∷ []) n ≡ Some other) last at) in
              let same_part : adds.made ≡ part = pushed_last laid.parts adds.made part (subst (λ n. slice_get (laid.parts ++ adds.made ∷ []) n ≡ Some part) last_part found) in
              let same_pair : out ≡ pair = pushed_last pairs out pair (subst (λ n. slice_get (pairs ++ out ∷ []) n ≡ Some pair) last_pair paired) in
              let reads : All (λ (s : Signal). IsSource (length inputs) (length pairs) s.from) node.ins = subst (λ n. All (λ (s : Signal). IsSource (length inputs) n s.from) node.ins) (sym pairs_as_many) exist in
              let shown : IsTemplateAmong (cells ++ adds.made) (node_function node) (map (signal_pair inputs (pairs ++ out ∷ [])) node.ins) (waits (length done)) adds.made out =
              subst (λ rs. IsTemplateAmong (cells ++ adds.made) (node_function node) rs (waits (length done)) adds.made out) (sym (pairs_stay inputs pairs out (length inputs) node.ins reads))
              (subst (λ (all : List StageCell). IsTemplateAmong all (node_function node) (map (signal_pair inputs pairs) node.ins) (waits (length done)) adds.made out) adds.added adds.template) in
              subst (λ n. IsTemplateAmong (cells ++ adds.made) (node_function other) (map (signal_pair inputs (pairs ++ out ∷ [])) other.ins) (waits n) part pair) (sym last)
              (subst (λ (n : Node). IsTemplateAmong (cells ++ adds.made) (node_function n) (map (signal_pair inputs (pairs ++ out ∷ [])) n.ins) (waits (length done)) part pair) same_node
              (subst (λ p. IsTemplateAmong (cells ++ adds.made) (node_function node) (map (signal_pair inputs (pairs ++ out ∷ [])) node.ins) (waits (length done)) p pair) same_part
              (subst (IsTemplateAmong (cells ++ adds.made) (node_function node) (map (signal_pair inputs (pairs ++ out ∷ [])) node.ins) (waits (length done)) adds.made) same_pair shown)))
        ]

    in_order : IsInOrder inputs (cells ++ adds.made)
    in_order front back cell is =
        elim (append_split cells adds.made front cell back is) [
          | inl (left, cut) ↦ laid.in_order front left cell cut
          | inr (mid, cut, rest) ↦
              All-from_members (λ (net : NetId). Contains (nets_of inputs front) net.0) cell.ins.items (λ net m.
              let known : Contains (nets_of (map (signal_pair inputs pairs) node.ins) mid) net.0 = at_member (λ (x : NetId). Contains (nets_of (map (signal_pair inputs pairs) node.ins) mid) x.0) cell.ins.items (adds.formed.in_order mid back cell rest) net (Contains-from_Member net m) in
              subst (λ (f : List StageCell). Contains (nets_of inputs f) net.0) (sym cut)
              (elim (Member-append_cases net.0 (rail_nets (map (signal_pair inputs pairs) node.ins)) (map out_of mid) (Member-from_Contains (nets_of (map (signal_pair inputs pairs) node.ins) mid) net.0 known)) [
                | inl rail ↦ known_left inputs cells mid net.0 (rail_known (nets_of inputs cells) (map (signal_pair inputs pairs) node.ins) ins_known net.0 rail)
                | inr driven ↦ known_right inputs cells mid net.0 (Contains-from_Member net.0 driven)
              ]))
        ]

    driven : (net : ℕ) → Member net (rail_nets (pairs ++ out ∷ [])) → Contains (nets_of inputs (cells ++ adds.made)) net
    driven net m =
        elim (Member-append_cases net (rail_nets pairs) (rail_nets (out ∷ [])) (subst (Member net) (rail_nets-append pairs (out ∷ [])) m)) [
          | inl old ↦ known_left inputs cells adds.made net (at_member (Contains (nets_of inputs cells)) (rail_nets pairs) laid.driven net (Contains-from_Member net old))
          | inr new ↦
              rail_known (nets_of inputs (cells ++ adds.made)) (out ∷ [])
              (λ r n. elim (member_cases r out [] n) [
                | inl same ↦ subst (IsKnown (nets_of inputs (cells ++ adds.made))) same (record { zero = known_right inputs cells adds.made out.zero.0 adds.formed.zero_driven; one = known_right inputs cells adds.made out.one.0 adds.formed.one_driven })
                | inr none ↦ elim none [ ]
              ])
              net new
        ]

    more : AreLaidOut inputs waits (done ++ node ∷ []) (cells ++ adds.made) (pairs ++ out ∷ [])
    more =
        let weighs = sum_by_push (λ (n : Node). cost_of_inputs (length n.ins)) done node in
        record {
          parts = laid.parts ++ adds.made ∷ [];
          as_many = omega (arith, length_push laid.parts adds.made, length_push done node, laid.as_many);
          pairs_as_many = omega (arith, length_push pairs out, length_push done node, laid.pairs_as_many);
          joined =
              ap (λ xs. xs ++ adds.made) laid.joined
              ∙ ap (λ ys. flat_map (λ (p : List StageCell). p) laid.parts ++ ys) (sym (append-nil adds.made) ∙ sym (flat_map-cons (λ (p : List StageCell). p) adds.made []))
              ∙ sym (flat_map-append (λ (p : List StageCell). p) laid.parts (adds.made ∷ []));
          templates = templates;
          arities = All-append (λ (c : StageCell). length c.ins.items ≡ arity_of c.kind) cells adds.made laid.arities adds.formed.arities;
          in_order = in_order;
          driven = All-from_members (Contains (nets_of inputs (cells ++ adds.made))) (rail_nets (pairs ++ out ∷ [])) driven;
          few = omega (arith, weighs, length-append cells adds.made, laid.few, adds.few);
        }

    AreLaidOut-more : AreLaidOut inputs waits (done ++ node ∷ []) new (pairs ++ out ∷ [])
    AreLaidOut-more = subst (λ all. AreLaidOut inputs waits (done ++ node ∷ []) all (pairs ++ out ∷ [])) (sym adds.added) more

-- ---- the nodes of a network in turn

ReadBefore-take : (inputs place : ℕ) (nodes : List Node) (i : ℕ) → ReadBefore inputs place nodes → ReadBefore inputs place (take i nodes)
ReadBefore-take inputs place nodes zero before = tt
ReadBefore-take inputs place [] (suc i) before = tt
ReadBefore-take inputs place (node ∷ nodes) (suc i) before = (before.0, ReadBefore-take inputs (place + 1) nodes i before.1)

pub length-input_pairs : (inputs : List Rails) (n : ℕ) → inputs ≡ input_pairs n → length inputs ≡ n
length-input_pairs inputs n is = ap length is ∙ length-map-range_with_len input_pair 0 n

module _ (network : Network) (waits : ℕ → List Bool → ℕ → Bool) (complete : IsComplete network) (inputs : List Rails) (is : inputs ≡ input_pairs network.inputs) (i : ℕ) (node : Node) (lt : i < length network.nodes) (at : node ≡ get_or network.nodes i node) (cells : List StageCell) (pairs : List Rails) (laid : AreLaidOut inputs waits (take i network.nodes) cells pairs) where
  done_count : length (take i network.nodes) ≡ i
  done_count = length-take-le i network.nodes (omega (arith, lt))

  stands : slice_get network.nodes i ≡ Some node
  stands = slice_get-get_or network.nodes i node lt ∙ ap Some (sym at)

  reads : All (λ (s : Signal). IsSource (length inputs) i s.from) node.ins
  reads =
      subst (λ n. All (λ (s : Signal). IsSource n i s.from) node.ins) (sym (length-input_pairs inputs network.inputs is))
      (subst (λ k. All (λ (s : Signal). IsSource network.inputs k s.from) node.ins) (let same : 0 + i ≡ i = omega arith in same) (reads_before_at network.inputs 0 network.nodes complete.varying.reads_before i node stands))

  pub turn_reads : All (λ (s : Signal). IsSource (length inputs) (length pairs) s.from) node.ins
  turn_reads = subst (λ k. All (λ (s : Signal). IsSource (length inputs) k s.from) node.ins) (sym (laid.pairs_as_many ∙ done_count)) reads

  pub turn_narrow : IsNarrow node
  turn_narrow = subst IsNarrow (sym at) (complete.varying.nodes i node lt)

  pub turn_room : length cells ≤ cost_of_nodes network.nodes
  turn_room = omega (arith, laid.few, sum_by-take-le (λ (n : Node). cost_of_inputs (length n.ins)) network.nodes i)

  pub turn_laid : (ins : List Rails) → ins ≡ map (signal_pair inputs pairs) node.ins → (new : List StageCell) (out : Rails) → AddsAmong (node_function node) ins (waits i) (cost_of_inputs (length node.ins)) cells new out → (longer : List Rails) → longer ≡ pairs ++ out ∷ [] → AreLaidOut inputs waits (take (i + 1) network.nodes) new longer
  turn_laid ins shown new out adds longer pushed =
      let before : ReadBefore (length inputs) 0 (take i network.nodes) = subst (λ n. ReadBefore n 0 (take i network.nodes)) (sym (length-input_pairs inputs network.inputs is)) (ReadBefore-take network.inputs 0 network.nodes i complete.varying.reads_before) in
      let exist : All (λ (s : Signal). IsSource (length inputs) (length (take i network.nodes)) s.from) node.ins = subst (λ k. All (λ (s : Signal). IsSource (length inputs) k s.from) node.ins) (sym done_count) reads in
      let adds_more : AddsAmong (node_function node) (map (signal_pair inputs pairs) node.ins) (waits (length (take i network.nodes))) (cost_of_inputs (length node.ins)) cells new out = subst (λ n. AddsAmong (node_function node) (map (signal_pair inputs pairs) node.ins) (waits n) (cost_of_inputs (length node.ins)) cells new out) (sym done_count) (subst (λ rs. AddsAmong (node_function node) rs (waits i) (cost_of_inputs (length node.ins)) cells new out) shown adds) in
      let nodes : take i network.nodes ++ node ∷ [] ≡ take (i + 1) network.nodes = ap (λ n. take i network.nodes ++ n ∷ []) at ∙ sym (take_more network.nodes i node lt) in
      let more = AreLaidOut-more inputs waits (take i network.nodes) cells pairs laid node new out before exist turn_narrow adds_more in
      subst (λ ps. AreLaidOut inputs waits (take (i + 1) network.nodes) new ps) (sym pushed)
      (subst (λ ns. AreLaidOut inputs waits ns new (pairs ++ out ∷ [])) nodes more)
