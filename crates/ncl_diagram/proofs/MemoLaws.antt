-- The memo of one operation.
use Rattle.ncl_diagram.proofs.Terms.{Bool, Key, List, Node, None, Option, Ref, Some, [], and_parts, ap, arith, false, if◌then◌else◌, inl, inr, is_key, is_node, length, list_any, nat_eq, nat_tests, node_at, or_parts, push_cases, slice_get, suc, true, zero, ℕ, ◌&&◌, ◌++◌, ◌+◌, ◌<◌, ◌∙◌, ◌∷◌, ◌≡◌, ◌⊎◌}
use Rattle.ncl_diagram.proofs.Canonical.{same_node}

pub none_put : (b : Bool) (keys more : List Key) (key : Key) → b ≡ false → more ≡ (if b then keys ++ key ∷ [] else keys) → more ≡ keys
none_put true keys more key h e = absurd (grind arith)
none_put false keys more key h e = e

pub put_last : (b : Bool) (keys more : List Key) (key : Key) → b ≡ true → more ≡ (if b then keys ++ key ∷ [] else keys) → more ≡ keys ++ key ∷ []
put_last true keys more key h e = e
put_last false keys more key h e = absurd (grind arith)

pub is_key_only : (x y : Key) → is_key x y ≡ true → x ≡ y
is_key_only x y e =
    let p = and_parts (nat_eq x.a.place y.a.place) (nat_eq x.b.place y.b.place && (nat_eq x.c.place y.c.place && nat_eq x.d.place y.d.place)) e in
    let q = and_parts (nat_eq x.b.place y.b.place) (nat_eq x.c.place y.c.place && nat_eq x.d.place y.d.place) p.1 in
    let r = and_parts (nat_eq x.c.place y.c.place) (nat_eq x.d.place y.d.place) q.1 in
    same (one _ _ p.0) (one _ _ q.0) (one _ _ r.0) (one _ _ r.1)
  where
    one : (i j : ℕ) → nat_eq i j ≡ true → i ≡ j
    one i j h = grind (arith, nat_tests)

    same : x.a.place ≡ y.a.place → x.b.place ≡ y.b.place → x.c.place ≡ y.c.place → x.d.place ≡ y.d.place → x ≡ y
    same a b c d = λ i. record { a = record { place = a i }; b = record { place = b i }; c = record { place = c i }; d = record { place = d i } }

pub short : {X : Type 0} (xs : List X) (i : ℕ) (x : X) → slice_get xs i ≡ Some x → i < length xs
short [] i x e = absurd (grind arith)
short (y ∷ xs) zero x e = omega arith
short (y ∷ xs) (suc i) x e = omega (arith, short xs i x e)

-- each answer was there before a key without one was put
pub answer_before : (keys : List Key) (key : Key) (found : List (Option Ref)) → length keys ≡ length found → (i : ℕ) (q : Key) (r : Ref) → slice_get (keys ++ key ∷ []) i ≡ Some q → slice_get (found ++ None ∷ []) i ≡ Some (Some r) → (slice_get keys i ≡ Some q) × (slice_get found i ≡ Some (Some r))
answer_before keys key found long i q r g h = by (push_cases keys key i q g) (push_cases found None i (Some r) h)
  where
    by : (slice_get keys i ≡ Some q) ⊎ ((i ≡ length keys) × (key ≡ q)) → (slice_get found i ≡ Some (Some r)) ⊎ ((i ≡ length found) × (None ≡ Some r)) → (slice_get keys i ≡ Some q) × (slice_get found i ≡ Some (Some r))
    by (inl a) (inl b) = (a, b)
    by (inr p) (inl b) = let s = short found _ _ b in let e = p.0 in absurd (omega arith)
    by a (inr p) = let e = p.1 in absurd (grind arith)

pub is_node_only : (x y : Node) → is_node x y ≡ true → x ≡ y
is_node_only x y e =
    let p = and_parts (nat_eq x.bit y.bit) (nat_eq x.low.place y.low.place && nat_eq x.high.place y.high.place) e in
    let q = and_parts (nat_eq x.low.place y.low.place) (nat_eq x.high.place y.high.place) p.1 in
    let a = p.0 in
    let b = q.0 in
    let d = q.1 in
    same_node x y (grind (arith, nat_tests)) (grind (arith, nat_tests)) (grind (arith, nat_tests))

pub is_node_self : (x : Node) → is_node x x ≡ true
is_node_self x = grind (arith, nat_tests)

pub absent_nodes : (x : Node) (nodes : List Node) → list_any (is_node x) nodes ≡ false → (k : ℕ) → slice_get nodes k ≡ Some x → ⊥
absent_nodes x [] none k g = absurd (grind arith)
absent_nodes x (y ∷ nodes) none zero g =
    let p = (or_parts (is_node x y) (list_any (is_node x) nodes) none).0 in
    let is : y ≡ x = cc in
    let t : is_node x y ≡ true = ap (is_node x) is ∙ is_node_self x in
    absurd (grind arith)
absent_nodes x (y ∷ nodes) none (suc k) g = absent_nodes x nodes (or_parts (is_node x y) (list_any (is_node x) nodes) none).1 k g

pub node_at_two : (nodes : List Node) (k : ℕ) → node_at nodes (k + 2) ≡ slice_get nodes k
node_at_two nodes k = let e : k + 2 ≡ suc (suc k) = omega arith in ap (node_at nodes) e
