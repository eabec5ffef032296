-- Gates that read nets that are known, and earlier gates.
use Rattle.ncl_template.proofs.Terms.{All, All-from_members, Contains, Contains-from_Member, IsInOrder, List, Member, Member-append_cases, Member-append_left, Member-append_right, NetId, Rails, StageCell, [], append-nil, append_assoc, arity_of, here, inl, inr, length, map, nets_of, out_of, rail_nets, subst, sym, there, ℕ, ◌++◌, ◌∷◌, ◌≡◌}

-- each gate has a net on each pin, which is known or driven by an earlier gate
abbrev pub AreInOrder : List ℕ → List StageCell → Type 0
AreInOrder known [] = Unit {0}
AreInOrder known (c ∷ gates) =
    (length c.ins.items ≡ arity_of c.kind) × ((net : NetId) → Member net c.ins.items → Member net.0 known) × AreInOrder (known ++ out_of c ∷ []) gates

pub in_order-wider : (known wider : List ℕ) → ((n : ℕ) → Member n known → Member n wider) → (gates : List StageCell) → AreInOrder known gates → AreInOrder wider gates
in_order-wider known wider within [] order = tt
in_order-wider known wider within (c ∷ gates) order = (
  order.0,
  λ net m. within net.0 (order.1 net m),
  in_order-wider (known ++ out_of c ∷ []) (wider ++ out_of c ∷ []) more_within gates order.2,
)
  where
    more_within : (n : ℕ) → Member n (known ++ out_of c ∷ []) → Member n (wider ++ out_of c ∷ [])
    more_within n m =
        elim (Member-append_cases n known (out_of c ∷ []) m) [
          | inl old ↦ Member-append_left n (out_of c ∷ []) (within n old)
          | inr new ↦ Member-append_right wider n new
        ]

pub in_order-append : (known : List ℕ) (xs ys : List StageCell) → AreInOrder known xs → AreInOrder (known ++ map out_of xs) ys → AreInOrder known (xs ++ ys)
in_order-append known [] ys first second = subst (λ known. AreInOrder known ys) (append-nil known) second
in_order-append known (x ∷ xs) ys first second = (
  first.0,
  first.1,
  in_order-append (known ++ out_of x ∷ []) xs ys first.2 (subst (λ known. AreInOrder known ys) (sym (append_assoc known (out_of x ∷ []) (map out_of xs))) second),
)

-- what follows for the gates of a stage
pub arities-in_order : (known : List ℕ) (gates : List StageCell) → AreInOrder known gates → All (λ (c : StageCell). length c.ins.items ≡ arity_of c.kind) gates
arities-in_order known gates order = All-from_members (λ (c : StageCell). length c.ins.items ≡ arity_of c.kind) gates (each known gates order)
  where
    each : (known : List ℕ) (gates : List StageCell) → AreInOrder known gates → (c : StageCell) → Member c gates → length c.ins.items ≡ arity_of c.kind
    each known [] order c m = elim m [ ]
    each known (g ∷ gates) order _ here = order.0
    each known (g ∷ gates) order c (there m) = each (known ++ out_of g ∷ []) gates order.2 c m

reads-in_order : (known : List ℕ) (gates : List StageCell) → AreInOrder known gates → (before after : List StageCell) (c : StageCell) → gates ≡ before ++ c ∷ after → (net : NetId) → Member net c.ins.items → Member net.0 (known ++ map out_of before)
reads-in_order known [] order [] after c is net m = absurd cc
reads-in_order known [] order (b ∷ before) after c is net m = absurd cc
reads-in_order known (g ∷ gates) order [] after c is net m =
    let same : c ≡ g = cc in
    Member-append_left net.0 [] (order.1 net (subst (λ (c : StageCell). Member net c.ins.items) same m))
reads-in_order known (g ∷ gates) order (b ∷ before) after c is net m =
    let same : g ≡ b = cc in
    let later : gates ≡ before ++ c ∷ after = cc in
    subst (λ (b : StageCell). Member net.0 (known ++ out_of b ∷ map out_of before)) same
    (subst (Member net.0) (append_assoc known (out_of g ∷ []) (map out_of before)) (reads-in_order (known ++ out_of g ∷ []) gates order.2 before after c later net m))

pub IsInOrder-from : (ins : List Rails) (gates : List StageCell) → AreInOrder (rail_nets ins) gates → IsInOrder ins gates
IsInOrder-from ins gates order before after c is =
    All-from_members (λ (net : NetId). Contains (nets_of ins before) net.0) c.ins.items
    (λ net m. Contains-from_Member net.0 (reads-in_order (rail_nets ins) gates order before after c is net m))
