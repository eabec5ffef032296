-- What follows of the bits of sources.
use Rattle.ncl_plans.proofs.Terms.{All-cons, All-nil, All-push, Bool, Computes, ComputesAt, IsKnown, Known, Leaves, List, Network, Node, Plan, ReadBefore, Respects, SignalSource, [], ap, at_each_word, beq, fact, false, get_or, leaf_bits, node_values, refl, source_value, subst, sym, true, word_of, ℕ, ◌++◌, ◌<◌, ◌∷◌, ◌≡◌}
use Rattle.ncl_plans.proofs.Smalls.{bit_of_node}

-- the bits of a network at a word respect its nodes
pub respected : (network : Network) (word : List Bool) → ReadBefore network.inputs 0 network.nodes → Respects network.nodes (source_value word (node_values word [] network.nodes))
respected network word before k node at = bit_of_node network.inputs word network.nodes before k node at

-- one more source is known
pub IsKnown-push : (value : SignalSource → Bool) (known new : List Known) (fact : Known) → IsKnown value known → value fact.from ≡ fact.bit → new ≡ known ++ fact ∷ [] → IsKnown value new
IsKnown-push value known new fact is here pushed =
    subst (IsKnown value) (sym pushed) (All-push (λ (one : Known). value one.from ≡ one.bit) known fact is here)

-- leaves have the bits of a word
pub leaves_known : (value : SignalSource → Bool) (leaves : Leaves) (word : List Bool) (known : List Known) → leaf_bits value leaves ≡ word → known ≡ fact leaves.first (get_or word 0 false) ∷ fact leaves.second (get_or word 1 false) ∷ fact leaves.third (get_or word 2 false) ∷ fact leaves.fourth (get_or word 3 false) ∷ [] → IsKnown value known
leaves_known value leaves word known is facts =
    let F = λ (fact : Known). value fact.from ≡ fact.bit in
    let bit = λ (k : ℕ). ap (λ (bits : List Bool). get_or bits k false) is in
    let last = fact leaves.fourth (get_or word 3 false) ∷ [] in
    let third_on = fact leaves.third (get_or word 2 false) ∷ last in
    let second_on = fact leaves.second (get_or word 1 false) ∷ third_on in
    subst (IsKnown value) (sym facts) (All-cons F (fact leaves.first (get_or word 0 false)) second_on (bit 0) (All-cons F (fact leaves.second (get_or word 1 false)) third_on (bit 1) (All-cons F (fact leaves.third (get_or word 2 false)) last (bit 2) (All-cons F (fact leaves.fourth (get_or word 3 false)) [] (bit 3) (All-nil F)))))

-- what holds at the word of each number holds
pub Computes-all : (nodes : List Node) (k : ℕ) (leaves : Leaves) (plan : Plan) → ((number : ℕ) → number < 16 → ComputesAt nodes k leaves plan (word_of 4 number)) → Computes nodes k leaves plan
Computes-all nodes k leaves plan at value respects =
    at_each_word 4 (ComputesAt nodes k leaves plan) at (leaf_bits value leaves) refl value respects refl

pub same_bits : (a b : Bool) → beq a b ≡ true → a ≡ b
same_bits true true e = refl
same_bits true false e = absurd cc
same_bits false true e = absurd cc
same_bits false false e = refl
