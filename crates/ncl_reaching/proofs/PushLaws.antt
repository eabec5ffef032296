-- One bit's followers more, and one gate more.
use Rattle.ncl_reaching.proofs.Terms.{List, Rails, StageCell, [], ap, append_assoc, arith, by_net, follower, followers, get_or, length, length-take-le, map, map_more, refl, sym, take, take_more, ℕ, ◌++◌, ◌+◌, ◌<◌, ◌∙◌, ◌∷◌, ◌≡◌}

followers-append : (outputs rails more others : List Rails) → length outputs ≡ length rails → followers (outputs ++ more) (rails ++ others) ≡ followers outputs rails ++ followers more others
followers-append [] [] more others many = refl
followers-append [] (r ∷ rails) more others many = absurd (omega (arith, many))
followers-append (o ∷ outputs) [] more others many = absurd (omega (arith, many))
followers-append (o ∷ outputs) (r ∷ rails) more others many = ap (λ gates. follower o.zero r.zero ∷ follower o.one r.one ∷ gates) (followers-append outputs rails more others (omega (arith, many)))

pub followers-next : (old now one two : List StageCell) (outputs rails : List Rails) (i : ℕ) (d : Rails) (g h : StageCell) → length outputs ≡ length rails → i < length rails → now ≡ old ++ followers (take i outputs) (take i rails)
    → g ≡ follower (get_or outputs i d).zero (get_or rails i d).zero → one ≡ now ++ g ∷ [] → h ≡ follower (get_or outputs i d).one (get_or rails i d).one → two ≡ one ++ h ∷ []
    → two ≡ old ++ followers (take (i + 1) outputs) (take (i + 1) rails)
followers-next old now one two outputs rails i d g h many lt was is first also second =
    second ∙ ap (λ xs. xs ++ h ∷ []) first ∙ append_assoc now (g ∷ []) (h ∷ [])
    ∙ (λ k. was k ++ is k ∷ also k ∷ [])
    ∙ append_assoc old (followers (take i outputs) (take i rails)) (followers (get_or outputs i d ∷ []) (get_or rails i d ∷ []))
    ∙ ap (λ xs. old ++ xs)
    (sym (followers-append (take i outputs) (take i rails) (get_or outputs i d ∷ []) (get_or rails i d ∷ []) (length-take-le i outputs (omega (arith, lt, many)) ∙ sym (length-take-le i rails (omega (arith, lt)))))
    ∙ sym (λ k. followers (take_more outputs i d (let e : i < length outputs = omega (arith, lt, many) in e) k) (take_more rails i d lt k)))

pub gates-next : (old now new : List StageCell) (gates : List StageCell) (i : ℕ) (g made : StageCell) → i < length gates → now ≡ old ++ map by_net (take i gates) → g ≡ get_or gates i g
    → made.cell.0 ≡ g.out.0 → made.kind ≡ g.kind → made.ins.items ≡ g.ins.items → made.out ≡ g.out → new ≡ now ++ made ∷ [] → new ≡ old ++ map by_net (take (i + 1) gates)
gates-next old now new gates i g made lt was at cell kind ins out is =
    is ∙ (λ k. was k ++ record { cell = record { 0 = cell k }; kind = kind k; ins = record { items = ins k }; out = out k } ∷ [])
    ∙ ap (λ (x : StageCell). (old ++ map by_net (take i gates)) ++ by_net x ∷ []) at
    ∙ append_assoc old (map by_net (take i gates)) (by_net (get_or gates i g) ∷ [])
    ∙ ap (λ xs. old ++ xs) (sym (map_more by_net gates i g lt))
