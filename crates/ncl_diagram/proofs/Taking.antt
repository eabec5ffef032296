-- The first of some nodes.
use Rattle.ncl_diagram.proofs.Terms.{Grown, IsCanonical, List, Node, Some, [], arith, length, length-take-le, refl, slice_get, subst, suc, take, zero, ℕ, ◌+◌, ◌<◌, ◌∷◌, ◌≡◌, ◌≤◌}
use Rattle.ncl_diagram.proofs.Canonical.{get_within}
use Rattle.ncl_diagram.proofs.Growth.{level_grown}

get_take : (nodes : List Node) (c k : ℕ) (x : Node) → slice_get (take c nodes) k ≡ Some x → slice_get nodes k ≡ Some x
get_take nodes zero k x e = absurd cc
get_take [] (suc c) k x e = e
get_take (y ∷ nodes) (suc c) zero x e = e
get_take (y ∷ nodes) (suc c) (suc k) x e = get_take nodes c k x e

-- more nodes are there where all are
pub grown_take : (nodes : List Node) (c : ℕ) → c ≤ length nodes → Grown (take c nodes) nodes
grown_take nodes c le = record { longer = omega (arith, length-take-le c nodes le); kept = get_take nodes c }

-- the first nodes of a diagram are one
pub canonical_take : (n : ℕ) (nodes : List Node) (c : ℕ) → c ≤ length nodes → IsCanonical n nodes → IsCanonical n (take c nodes)
canonical_take n nodes c le can = record {
  bits = λ k x e. can.bits k x (get_take nodes c k x e);
  low = λ k x e. subst (λ (level : ℕ). x.bit < level) (level_grown n (take c nodes) nodes grown x.low.place (there k x e (can.before k x (get_take nodes c k x e)).0)) (can.low k x (get_take nodes c k x e));
  high = λ k x e. subst (λ (level : ℕ). x.bit < level) (level_grown n (take c nodes) nodes grown x.high.place (there k x e (can.before k x (get_take nodes c k x e)).1)) (can.high k x (get_take nodes c k x e));
  reduced = λ k x e. can.reduced k x (get_take nodes c k x e);
  single = λ j k x e f. can.single j k x (get_take nodes c j x e) (get_take nodes c k x f);
  before = λ k x e. can.before k x (get_take nodes c k x e);
}
  where
    grown : Grown (take c nodes) nodes
    grown = grown_take nodes c le

    there : (k : ℕ) (x : Node) → slice_get (take c nodes) k ≡ Some x → {p : ℕ} → p < k + 2 → p < length (take c nodes) + 2
    there k x e lt = let w = get_within (take c nodes) k x e in omega arith

-- the first nodes stay the first where more come
pub take_grown : (old new : List Node) (c : ℕ) → Grown old new → c ≤ length old → take c new ≡ take c old
take_grown old new zero g le = refl
take_grown [] new (suc c) g le = absurd (omega arith)
take_grown (x ∷ old) [] (suc c) g le = let l = g.longer in absurd (omega arith)
take_grown (x ∷ old) (y ∷ new) (suc c) g le =
    let first : slice_get (y ∷ new) zero ≡ Some x = g.kept zero x refl in
    let same : y ≡ x = cc in
    let rest : Grown old new = record { longer = let l = g.longer in omega arith; kept = λ k z e. g.kept (suc k) z e } in
    λ i. same i ∷ take_grown old new c rest (omega arith) i
