use Rattle.ncl_blif.proofs.Terms.{Some, ap, false, is_driven, signal_number, subst, true, ◌+◌, ◌∙◌, ◌≡◌}
use Rattle.ncl_blif.proofs.BodySteps.{number-none, number-input, number-cover}
use Rattle.ncl_blif.proofs.draft.Draft.number.Goals as goal

pub returns-in_err-place : goal.returns-in_err-place
returns-in_err-place c =
    rw c.from_residual.ensures (subst (λ model. is_driven model c.args.signal.now ≡ false) c.self.view_is
    (number-none c.self.inside.body c.self.invariant.0 c.args.signal.now _ c.get.ensures c.in_err-place.was))

pub returns-in-Input : goal.returns-in-Input
returns-in-Input c =
    subst (λ model. (is_driven model c.args.signal.now ≡ true) × (c.in-Input.place ≡ signal_number model c.args.signal.now)) c.self.view_is
    (number-input c.self.inside.body c.self.invariant.0 c.args.signal.now _ c.in-Input.place c.get.ensures (c.in_ok-place.was ∙ ap Some c.in-Input.is))

pub returns-in-Cover : goal.returns-in-Cover
returns-in-Cover c =
    let count = c.len.ensures ∙ c.self.inside.body.inputs.ok.0 in
    subst (λ model. (is_driven model c.args.signal.now ≡ true) × (c.len.result + c.in-Cover.place ≡ signal_number model c.args.signal.now)) c.self.view_is
    (number-cover c.self.inside.body c.self.invariant.0 c.args.signal.now _ c.len.result c.in-Cover.place c.get.ensures (c.in_ok-place.was ∙ ap Some c.in-Cover.is) count)
