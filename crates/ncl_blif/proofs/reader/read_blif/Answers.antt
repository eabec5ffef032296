use Rattle.ncl_blif.proofs.Terms.{All, AreModels, IsFaultless, IsFirstModelFault, List, NamedModel, ap, arith, err_from_is_err_and, get_or, inl, inr, length, line, map, model, models_said, numbered_model, size_of_named, subst, sum_by_more_le, sym, unjoined_model, width, ℕ, ⊎_elim, ◌<◌, ◌∙◌, ◌≤◌}
use Rattle.ncl_blif.proofs.Counts.{models_few}
use Rattle.ncl_blif.proofs.ModelSizes.{models_said-size}
use Rattle.ncl_blif.proofs.ReadFacts.{AreModels-said, covers_sized}
use Rattle.ncl_blif.proofs.reader.read_blif.Goals as goal

pub returns-in_err-drafts-clause-refused : goal.returns-in_err-drafts-clause-refused
returns-in_err-drafts-clause-refused c =
    let p = err_from_is_err_and c.from_residual.result c.from_residual.ensures.1 in
    rw (p.1, p.2) (⊎_elim (λ none. inl none) (λ broken. inr (line _ broken)) c.in_err-drafts.ensures)

pub first_unjoined-unjoined-requires : goal.first_unjoined-unjoined-requires
first_unjoined-unjoined-requires c =
    omega (arith, ap length (c.deref.ensures.value ∙ c.in_ok-drafts.ensures.1), models_few c.args.text.now)

pub finish_all-requires-clause-few : goal.finish_all-requires-clause-few
finish_all-requires-clause-few c = omega (arith, ap length c.in_ok-drafts.ensures.1, models_few c.args.text.now)

-- a model among those that a text says is no larger than the text
sized : (text : List ℕ) (k : ℕ) (d : NamedModel) → k < length (models_said text) → size_of_named (get_or (models_said text) k d) ≤ length text
sized text k d within = omega (arith, models_said-size text, sum_by_more_le size_of_named (models_said text) k d within)

pub finish_all-requires-clause-few_inputs : goal.finish_all-requires-clause-few_inputs
finish_all-requires-clause-few_inputs c = λ k d within.
    let is = c.in_ok-drafts.ensures.1 in
    omega (arith, sized c.args.text.now k d (subst (λ xs. k < length xs) is within), ap (λ xs. length (get_or xs k d).inputs) is)

pub finish_all-requires-clause-few_covers : goal.finish_all-requires-clause-few_covers
finish_all-requires-clause-few_covers c = λ k d within.
    let text = c.args.text.now in
    let is = c.in_ok-drafts.ensures.1 in
    omega (
      arith,
      sized text k d (subst (λ xs. k < length xs) is within),
      covers_sized (get_or (models_said text) k d).covers,
      ap (λ xs. length (get_or xs k d).covers) is,
    )

pub returns-in_err-models-clause-refused : goal.returns-in_err-models-clause-refused
returns-in_err-models-clause-refused c =
    let p = err_from_is_err_and c.from_residual-in_err-models.result c.from_residual-in_err-models.ensures.1 in
    let is = c.in_ok-drafts.ensures.1 in
    rw (p.1, p.2) (⊎_elim (λ none. inl none)
    (λ broken. inr (model c.in_err-models.field-0.0 c.in_ok-drafts.ensures.0 (subst (λ xs. IsFirstModelFault xs c.in_err-models.field-0.0) is broken))) c.in_err-models.ensures.refused)

pub returns-in-Some-clause-refused : goal.returns-in-Some-clause-refused
returns-in-Some-clause-refused c =
    let is = c.in_ok-drafts.ensures.1 in
    let lent = c.deref.ensures.value ∙ is in
    inr (width c.in-Some.number c.in_ok-drafts.ensures.0 (subst (All IsFaultless) is c.in_ok-models.ensures.faultless)
    (ap (unjoined_model 1) (sym lent) ∙ sym c.in-Some.ensures))

pub returns-clause-models : goal.returns-clause-models
returns-clause-models c =
    let text = c.args.text.now in
    let is = c.in_ok-drafts.ensures.1 in
    let lent = c.deref.ensures.value ∙ is in
    let models = AreModels-said text (omega arith) c.in_ok-drafts.ensures.0 (subst (All IsFaultless) is c.in_ok-models.ensures.faultless)
    (ap (unjoined_model 1) (sym lent) ∙ sym c.in_default.ensures) in
    subst AreModels (sym (c.in_ok-models.ensures.read ∙ ap (map numbered_model) is)) models
