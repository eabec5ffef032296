use Rattle.ncl_blif.proofs.Terms.{Bor, List, YieldsList-end, YieldsList-from_slice_split, [], ap, append-nil, append_assoc, arith, cond, cond-true, eqb, eqb-true, false, filter, filter-append, is_blank, length, lt-ltb, ltb, map, map_push, refl, rules, sym, true, ℕ, ◌++◌, ◌∙◌, ◌∷◌, ◌≡◌}
use Rattle.ncl_blif.proofs.fields.push_fields.Goals as goal

abbrev said : List (Bor (List ℕ)) → List (List ℕ)
said fields = map (λ field. field.now) fields

-- the parts that are fields
abbrev kept : List (List ℕ) → List (List ℕ)
kept parts = filter (λ field. ltb 0 (length field)) parts

kept-one : (part : List ℕ) → eqb (length part) 0 ≡ false → kept (part ∷ []) ≡ part ∷ []
kept-one [] some = absurd cc
kept-one (b ∷ bs) some = cond-true _ _ _ (lt-ltb 0 (length (b ∷ bs)) (omega arith))

kept-none : (part : List ℕ) → eqb (length part) 0 ≡ true → kept (part ∷ []) ≡ []
kept-none part none = ap (λ n. cond (ltb 0 n) (part ∷ []) []) (eqb-true (length part) 0 none)

-- one part more
kept-more : (parts : List (Bor (List ℕ))) (part : Bor (List ℕ)) → kept (said (parts ++ part ∷ [])) ≡ kept (said parts) ++ kept (part.now ∷ [])
kept-more parts part = ap kept (map_push (λ part. part.now) parts part) ∙ filter-append (λ field. ltb 0 (length field)) (said parts) (part.now ∷ [])

pub loop-part-preserved-in-Continue-1 : goal.loop-part-preserved-in-Continue-1
loop-part-preserved-in-Continue-1 c =
    let old = said c.args.fields.now.items in
    let before = kept (said c.loop-part.yielded) in
    let part = c.in-Some.part in
    let is : kept (said (c.loop-part.yielded ++ part ∷ [])) ≡ before ++ part.now ∷ [] = kept-more c.loop-part.yielded part ∙ ap (λ one. before ++ one) (kept-one part.now (sym c.is_empty.ensures ∙ c.if-not-is_empty.true)) in
    let both : (old ++ before) ++ part.now ∷ [] ≡ old ++ (before ++ part.now ∷ []) = rw append_assoc refl in
    ap said c.in_ok-push.ensures.items ∙ map_push (λ field. field.now) c.loop-part.fields.items part ∙ ap (λ fields. fields ++ part.now ∷ []) c.loop-part.invariant ∙ both ∙ sym (ap (λ parts. old ++ parts) is)

pub loop-part-preserved : goal.loop-part-preserved
loop-part-preserved c =
    let before = kept (said c.loop-part.yielded) in
    let none = kept-none c.in-Some.part.now (sym c.is_empty.ensures ∙ c.if-not-is_empty.false) in
    let is : kept (said (c.loop-part.yielded ++ c.in-Some.part ∷ [])) ≡ before = kept-more c.loop-part.yielded c.in-Some.part ∙ ap (λ one. before ++ one) none ∙ append-nil before in
    c.loop-part.invariant ∙ sym (ap (λ parts. said c.args.fields.now.items ++ parts) is)

pub returns : goal.returns
returns c =
    let all = YieldsList-end (YieldsList-from_slice_split _ is_blank c.args.text.now (cc) (cc) (cc) (λ x b q k. search rules)) c.loop-part.yielded _ c.loop-part.yielded_by _ _ c.in-None.is c.next.ensures.steps in
    c.loop-part.invariant ∙ ap (λ parts. map (λ field. field.now) c.args.fields.now.items ++ filter (λ field. ltb 0 (length field)) parts) all.0
