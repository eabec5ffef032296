-- The names of nets, by the pairs of names that the inputs have.
use Rattle.ncl_rails.proofs.Terms.{All, IsNamed, List, NamePair, Rails, Some, [], ap, arith, cond-false, cond-true, flat_map-cons, get_or, get_or-map-range_with_len, get_or_from_slice_get, input_pair, input_pairs, le-ltb, length, length-map, length-map-range_with_len, lt-ltb, map, name_of_net, name_of_pair, nat_lt, net_name_of, option_map, pair_list, pair_names, rail_nets, refl, same_Some, same_from_lengths, slice_get, slice_get-get_or, slice_get-map, slice_get_within, suc, sym, zero, ℕ, ◌*◌, ◌+◌, ◌-◌, ◌<◌, ◌∙◌, ◌∷◌, ◌≡◌, ◌≤◌}

pub pair_names-cons : (pair : NamePair) (ins : List NamePair) → pair_names (pair ∷ ins) ≡ pair.zero ∷ pair.one ∷ pair_names ins
pair_names-cons pair ins = flat_map-cons pair_list pair ins

pub length-pair_names : (ins : List NamePair) → length (pair_names ins) ≡ 2 * length ins
length-pair_names [] = refl
length-pair_names (pair ∷ ins) = omega (arith, ap length (pair_names-cons pair ins), length-pair_names ins)

name_zero : (ins : List NamePair) (k : ℕ) (pair : NamePair) → k < length ins → pair ≡ get_or ins k pair → get_or (pair_names ins) (2 * k) [] ≡ pair.zero
name_zero [] k pair lt at = absurd (omega (arith, lt))
name_zero (first ∷ ins) zero pair lt at = ap (λ names. get_or names 0 []) (pair_names-cons first ins) ∙ ap (λ (p : NamePair). p.zero) (sym at)
name_zero (first ∷ ins) (suc k) pair lt at =
    let place : 2 * suc k ≡ suc (suc (2 * k)) = omega arith in
    (λ i. get_or (pair_names-cons first ins i) (place i) []) ∙ name_zero ins k pair (omega arith) at

name_one : (ins : List NamePair) (k : ℕ) (pair : NamePair) → k < length ins → pair ≡ get_or ins k pair → get_or (pair_names ins) (2 * k + 1) [] ≡ pair.one
name_one [] k pair lt at = absurd (omega (arith, lt))
name_one (first ∷ ins) zero pair lt at = ap (λ names. get_or names 1 []) (pair_names-cons first ins) ∙ ap (λ (p : NamePair). p.one) (sym at)
name_one (first ∷ ins) (suc k) pair lt at =
    let place : 2 * suc k + 1 ≡ suc (suc (2 * k + 1)) = omega arith in
    (λ i. get_or (pair_names-cons first ins i) (place i) []) ∙ name_one ins k pair (omega arith) at

-- the first nets have the names of the inputs, and the others names that are made
given_name : (names : List (List ℕ)) (prefix : List ℕ) (net : ℕ) → net < length names → name_of_net names prefix net ≡ get_or names net []
given_name names prefix net lt = cond-true (nat_lt net (length names)) _ _ (lt-ltb net (length names) lt)

pub made_name : (names : List (List ℕ)) (prefix : List ℕ) (net : ℕ) → length names ≤ net → name_of_net names prefix net ≡ net_name_of prefix (net - length names)
made_name names prefix net le = cond-false (nat_lt net (length names)) _ _ (le-ltb net (length names) le)

pub net_zero : (ins : List NamePair) (prefix : List ℕ) (k : ℕ) (pair : NamePair) → k < length ins → pair ≡ get_or ins k pair → name_of_net (pair_names ins) prefix (2 * k) ≡ pair.zero
net_zero ins prefix k pair lt at = given_name (pair_names ins) prefix (2 * k) (omega (arith, lt, length-pair_names ins)) ∙ name_zero ins k pair lt at

pub net_one : (ins : List NamePair) (prefix : List ℕ) (k : ℕ) (pair : NamePair) → k < length ins → pair ≡ get_or ins k pair → name_of_net (pair_names ins) prefix (2 * k + 1) ≡ pair.one
net_one ins prefix k pair lt at = given_name (pair_names ins) prefix (2 * k + 1) (omega (arith, lt, length-pair_names ins)) ∙ name_one ins k pair lt at

-- the pairs of the inputs have the names of the inputs
pub inputs_named : (ins : List NamePair) (prefix : List ℕ) (n : ℕ) → length ins ≡ n → map (name_of_pair (pair_names ins) prefix) (input_pairs n) ≡ ins
inputs_named ins prefix n count =
    same_from_lengths (map (name_of_pair (pair_names ins) prefix) (input_pairs n)) ins
    (length-map (input_pairs n) (name_of_pair (pair_names ins) prefix) ∙ length-map-range_with_len input_pair 0 n ∙ sym count)
    (λ k x y at stands.
    let within : k < length ins = slice_get_within ins k y stands in
    let pair : slice_get (input_pairs n) k ≡ Some (input_pair k) =
    slice_get-get_or (input_pairs n) k (input_pair k) (omega (arith, within, count, length-map-range_with_len input_pair 0 n))
    ∙ ap Some (get_or-map-range_with_len input_pair 0 n k k (input_pair k) (omega (arith, within, count)) (omega arith)) in
    let named : name_of_pair (pair_names ins) prefix (input_pair k) ≡ x = same_Some (name_of_pair (pair_names ins) prefix (input_pair k)) x (sym (slice_get-map (name_of_pair (pair_names ins) prefix) (input_pairs n) k ∙ ap (option_map (name_of_pair (pair_names ins) prefix)) pair) ∙ at) in
    let is : y ≡ get_or ins k y = sym (get_or_from_slice_get ins k y y stands) in
    sym named ∙ (λ i. record { zero = net_zero ins prefix k y within is i; one = net_one ins prefix k y within is i }))

-- where the nets of pairs have names, both of each pair have
pub pair_in_range : (n : ℕ) (pairs : List Rails) → All (IsNamed n) (rail_nets pairs) → (k : ℕ) (d : Rails) → k < length pairs → IsNamed n (get_or pairs k d).zero.0 × IsNamed n (get_or pairs k d).one.0
pair_in_range n [] named k d lt = absurd (omega (arith, lt))
pair_in_range n (r ∷ pairs) named zero d lt = (named 0 0 (omega arith), named 1 0 (omega arith))
pair_in_range n (r ∷ pairs) named (suc k) d lt = pair_in_range n pairs (λ i x within. named (suc (suc i)) x (omega (arith, within))) k d (omega (arith, lt))
