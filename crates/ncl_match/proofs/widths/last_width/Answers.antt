use Rattle.ncl_match.proofs.Terms.{[], List, Model, ap, arith, false, get_or, length, nat_tests, outputs_of, refl, suc, sym, ◌-◌, ◌==◌, ◌∙◌, ◌∷◌, ◌≡◌}
use Rattle.ncl_match.proofs.widths.last_width.Goals as goal

-- a list that has an element isn't empty
filled : (n : Model) (ms : List Model) → (length (n ∷ ms) == 0) ≡ false
filled n ms = grind (arith, nat_tests)

-- the last model
outputs-last : (models : List Model) (d : Model) → (length models == 0) ≡ false → length (get_or models (length models - 1) d).outputs ≡ outputs_of models
outputs-last [] d e = absurd cc
outputs-last (m ∷ []) d e = refl
outputs-last (m ∷ n ∷ ms) d e =
    let more : length (m ∷ n ∷ ms) - 1 ≡ suc (length (n ∷ ms) - 1) = omega arith in
    ap (λ k. length (get_or (m ∷ n ∷ ms) k d).outputs) more ∙ outputs-last (n ∷ ms) d (filled n ms)

pub returns : goal.returns
returns c = ap length c.items.ensures ∙ outputs-last c.args.models.now c.index-models-models.result (sym c.is_empty.ensures ∙ c.if-is_empty.false)
