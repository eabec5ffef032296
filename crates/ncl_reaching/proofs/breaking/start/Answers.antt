use Rattle.ncl_reaching.proofs.Terms.{Bool, IfOk, List, [], ap, length, meaning, reset, same_from_all_zip, subst, sym, ◌∙◌, ◌∷◌, ◌≡◌}
use Rattle.ncl_reaching.proofs.breaking.start.Goals as goal

pub new-requires : goal.new-requires
new-requires c =
    let (from, to, from_is, to_is, clones) = c.in_ok-clone.ensures.cases in
    (ap length (sym to_is ∙ same_from_all_zip _ _ _ clones (λ x y r. r) ∙ from_is) ∙ c.requires, record {})

pub returns-clause-made : goal.returns-clause-made
returns-clause-made c = c.new.ensures.made

pub returns-clause-reset : goal.returns-clause-reset
returns-clause-reset c =
    let (from, to, from_is, to_is, clones) = c.in_ok-clone.ensures.cases in
    subst (λ (word : List Bool). IfOk c.new.result (λ state. meaning state ≡ reset c.args.pipeline.now (word ∷ []))) (sym to_is ∙ same_from_all_zip _ _ _ clones (λ x y r. r) ∙ from_is) c.new.ensures.reset
