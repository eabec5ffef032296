use Rattle.ncl_demo.proofs.Terms.{FULL_CARRY, FULL_SUM, HALF_CARRY, HALF_SUM, [], ap, covers_of, inl, inr, refl, ℕ, ◌*◌, ◌+◌, ◌-◌, ◌∙◌, ◌∷◌, ◌≡◌, ◌≢◌, ◌⊎◌}
use Rattle.ncl_demo.proofs.Staging.{Serves, stage_serves}
use Rattle.ncl_demo.proofs.models.stage_model.Goals as goal
use Rattle.ncl_demo.proofs.models.stage_model.Goals.{then-stage-eq0+in_ok-covers, else-stage-eq0+in_ok-covers-2}

pub returns : goal.returns
returns c =
    let stage = c.args.stage in
    let place : ℕ = c.min-carries.result + stage in
    let width : ℕ = place + 2 * (c.args.bits - stage) in
    let covers : ((stage ≡ 0) × (c.from_vec-3.result ≡ covers_of (0 ∷ 1 ∷ []) width HALF_CARRY HALF_SUM))
    ⊎ ((stage ≢ 0) × (c.from_vec-3.result ≡ covers_of (0 ∷ place ∷ (place + 1) ∷ []) width FULL_CARRY FULL_SUM)) =
    elim c.if-stage-eq0.branch [
      | then-stage-eq0+in_ok-covers w ↦ inl (w.if-stage-eq0.true, c.from_vec-3.ensures ∙ ap (λ v. v.items) w.covers-is ∙ w.in_ok-covers.ensures)
      | else-stage-eq0+in_ok-covers-2 w ↦ inr (w.if-stage-eq0.false, c.from_vec-3.ensures ∙ ap (λ v. v.items) w.covers-is ∙ w.in_ok-covers-2.ensures)
    ] in
    let served : Serves c.args.bits stage (record { name = c.in_ok-stage_name.field-0; inputs = c.from_vec.result; outputs = c.from_vec-2.result; covers = c.from_vec-3.result }) =
    stage_serves c.args.bits stage c.min-carries.result place width _ c.requires.stage c.requires.few c.min-carries.ensures refl refl c.in_ok-stage_name.ensures
    (c.from_vec.ensures ∙ c.in_ok-numbers.ensures) (c.from_vec-2.ensures ∙ c.in_ok-outputs.ensures) covers in
    record { model = served.is_model; stage = served.is_stage; small = served.small }
