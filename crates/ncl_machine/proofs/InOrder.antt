-- Going through the nets of a stage in its order: the rails first, then the output of each cell, when all that
-- the cell reads is known.
use Rattle.ncl_machine.proofs.Terms.{All-contains, AllPairs, Bool, Contains, Contains-from_Member, IsStage, List, Member-append_cases, Member-append_left, Member-append_right, Member-from_Contains, NetId, Rails, StageCell, StageData, [], among, ap, append-nil, append_assoc, both_ways, eqb-true, false, here, inl, inr, map, map-append, named-within, named_rails, nat_eq, nets_of, or_cases, out_of, parts-differ, rail_nets, rail_of, rails_within, refl, right-differ, subst, sym, there, true, ℕ, ◌++◌, ◌∙◌, ◌∷◌, ◌≡◌, ◌≢◌, ◌⊎◌}
use Rattle.ncl_base.specs.Members.{Member}

-- what holds of the rails, and of the output of each cell where it holds of all that the cell reads, holds of
-- every net of the stage
pub in_order : (s : StageData) → IsStage s → (P : ℕ → Type 0) → ((net : ℕ) → Member net (rail_nets s.inputs) → P net) → ((c : StageCell) → Member c s.cells → ((net : NetId) → Member net c.ins.items → P net.0) → P (out_of c)) → (net : ℕ) → Member net (nets_of s.inputs s.cells) → P net
in_order s is P rail each = go [] s.cells refl (λ net m. rail net (subst (Member net) (append-nil (rail_nets s.inputs)) m))
  where
    one_more : (before : List StageCell) (c : StageCell) → nets_of s.inputs (before ++ c ∷ []) ≡ nets_of s.inputs before ++ out_of c ∷ []
    one_more before c = ap (λ nets. rail_nets s.inputs ++ nets) (map-append out_of before (c ∷ [])) ∙ sym (append_assoc (rail_nets s.inputs) (map out_of before) (out_of c ∷ []))

    at_last : (c : StageCell) (net : ℕ) → P (out_of c) → Member net (out_of c ∷ []) → P net
    at_last c net known here = known
    at_last c net known (there m) = elim m [ ]

    go : (before after : List StageCell) → s.cells ≡ before ++ after → ((net : ℕ) → Member net (nets_of s.inputs before) → P net) → (net : ℕ) → Member net (nets_of s.inputs s.cells) → P net
    go before [] parts known = subst (λ cells. (net : ℕ) → Member net (nets_of s.inputs cells) → P net) (sym (parts ∙ append-nil before)) known
    go before (c ∷ after) parts known =
        let reads = is.in_order before after c parts in
        let out : P (out_of c) =
        each c (subst (λ cells. Member c cells) (sym parts) (Member-append_right before c here))
        (λ net m.
        let (place, lt, at) = All-contains (λ (net : NetId). Contains (nets_of s.inputs before) net.0) c.ins.items net reads (Contains-from_Member net m) in
        known net.0 (Member-from_Contains (nets_of s.inputs before) net.0 (place, lt, at))) in
        go (before ++ c ∷ []) after (parts ∙ sym (append_assoc before (c ∷ []) after))
        (λ net m.
        elim (Member-append_cases net (nets_of s.inputs before) (out_of c ∷ []) (subst (Member net) (one_more before c) m)) [
          | inl some ↦ known net some
          | inr last ↦ at_last c net out last
        ])

-- a rail that a word names is a rail of a bit
pub bit_of_named : (inputs : List Rails) (word : List Bool) (net : ℕ) → among (named_rails inputs word) net ≡ true → (r : Rails) × Member r inputs × ((net ≡ r.zero.0) ⊎ (net ≡ r.one.0))
bit_of_named [] word net high = absurd (both_ways false refl high)
bit_of_named (r ∷ rs) [] net high = absurd (both_ways false refl high)
bit_of_named (r ∷ rs) (b ∷ word) net high =
    elim (or_cases (nat_eq net (rail_of r b)) _ high) [
      | inl first ↦ (r, here, side r b (eqb-true net (rail_of r b) first))
      | inr rest ↦ let (other, m, at) = bit_of_named rs word net rest in (other, there m, at)
    ]
  where
    side : (r : Rails) (b : Bool) → net ≡ rail_of r b → (net ≡ r.zero.0) ⊎ (net ≡ r.one.0)
    side r true e = inr e
    side r false e = inl e

-- where all rails differ, a word names one rail of a bit
pub one_named : (inputs : List Rails) (ys : List ℕ) → AllPairs (λ x y. x ≢ y) (rail_nets inputs ++ ys) → (word : List Bool) (r : Rails) → Member r inputs → among (named_rails inputs word) r.zero.0 ≡ true → among (named_rails inputs word) r.one.0 ≡ true → ⊥
one_named inputs ys differ [] r (here {xs = rs}) zero one = both_ways false refl zero
one_named inputs ys differ [] r (there m) zero one = both_ways false refl zero
one_named inputs ys differ (b ∷ word) r (here {xs = rs}) zero one =
    elim (or_cases (nat_eq r.zero.0 (rail_of r b)) _ zero) [
      | inr rest ↦ parts-differ r.zero.0 {xs = r.zero.0 ∷ r.one.0 ∷ []} (rail_nets rs ++ ys) differ here (Member-append_left r.zero.0 ys (named-within rs word r.zero.0 rest))
      | inl z ↦
          elim (or_cases (nat_eq r.one.0 (rail_of r b)) _ one) [
            | inr rest ↦ parts-differ r.one.0 {xs = r.zero.0 ∷ r.one.0 ∷ []} (rail_nets rs ++ ys) differ (there here) (Member-append_left r.one.0 ys (named-within rs word r.one.0 rest))
            | inl o ↦
                let same : r.zero.0 ≡ r.one.0 = eqb-true r.zero.0 (rail_of r b) z ∙ sym (eqb-true r.one.0 (rail_of r b) o) in
                parts-differ r.zero.0 {xs = r.zero.0 ∷ []} (r.one.0 ∷ rail_nets rs ++ ys) differ here (subst (λ x. Member x (r.one.0 ∷ rail_nets rs ++ ys)) (sym same) here)
          ]
    ]
one_named inputs ys differ (b ∷ word) r (there {y = y} {xs = rs} m) zero one =
    one_named rs ys (right-differ (y.zero.0 ∷ y.one.0 ∷ []) (rail_nets rs ++ ys) differ) word r m (later r.zero.0 (rails_within r m).0 zero) (later r.one.0 (rails_within r m).1 one)
  where
    among_first : (b : Bool) → Member (rail_of y b) (y.zero.0 ∷ y.one.0 ∷ [])
    among_first true = there here
    among_first false = here

    later : (net : ℕ) → Member net (rail_nets rs) → among (named_rails (y ∷ rs) (b ∷ word)) net ≡ true → among (named_rails rs word) net ≡ true
    later net in_rest high =
        elim (or_cases (nat_eq net (rail_of y b)) _ high) [
          | inl first ↦ absurd (parts-differ net {xs = y.zero.0 ∷ y.one.0 ∷ []} (rail_nets rs ++ ys) differ (subst (λ x. Member x (y.zero.0 ∷ y.one.0 ∷ [])) (sym (eqb-true net (rail_of y b) first)) (among_first b)) (Member-append_left net ys in_rest))
          | inr rest ↦ rest
        ]
