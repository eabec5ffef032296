use Rattle.ncl_blif.proofs.Terms.{ap, arith, drivers_of, err_from_is_err_and, get_or-map, inl, inr, length, length-append, length-map, length-take, map, map_more, said_by, sym, take, take-map, take_all, ⊎_elim, ◌++◌, ◌+◌, ◌<◌, ◌∙◌}
use Rattle.ncl_blif.proofs.BodySteps.{with_inputs, outs_of, inputs-more, inputs-twice, inputs-all}
use Rattle.ncl_blif.proofs.draft_body.DraftBody.add_inputs.Goals as goal

pub loop-name-preserved : goal.loop-name-preserved
loop-name-preserved c = record {
  kept = c.in_ok-add_input.ensures.0;
  said = inputs-more (said_by c.args.self.now) (said_by c.loop-name.self) (said_by c.add_input.new.self) (map (λ name. name.now) (take c.loop-name.name-index c.args.names.now)) (map (λ name. name.now) (take (c.loop-name.name-index + 1) c.args.names.now)) _
      c.loop-name.invariant.said c.in_ok-add_input.ensures.1 (sym (map_more (λ name. name.now) c.args.names.now c.loop-name.name-index _ c.loop-name-test.true));
}

pub add_input-requires-clause-room : goal.add_input-requires-clause-room
add_input-requires-clause-room c =
    let old = said_by c.args.self.now in
    let names = map (λ name. name.now) (take c.loop-name.name-index c.args.names.now) in
    let outs = outs_of c.args.self.now.covers.items in
    let said = ap length (ap drivers_of c.loop-name.invariant.said) in
    omega (arith, said, length-append (old.inputs ++ names) outs, length-append old.inputs names, length-append old.inputs outs, length-map (take c.loop-name.name-index c.args.names.now) (λ name. name.now), length-take c.loop-name.name-index c.args.names.now)

pub returns-in_err-add_input : goal.returns-in_err-add_input
returns-in_err-add_input c =
    let old = said_by c.args.self.now in
    let said = c.loop-name.invariant.said ∙ ap (λ names. with_inputs old (old.inputs ++ names)) (sym (take-map (λ name. name.now) c.loop-name.name-index c.args.names.now)) in
    let within : c.loop-name.name-index < length (map (λ name. name.now) c.args.names.now) = omega (arith, length-map c.args.names.now (λ name. name.now)) in
    let p = err_from_is_err_and c.from_residual.result c.from_residual.ensures.1 in
    rw (p.1, p.2) (⊎_elim (λ memory. inl memory)
    (λ twice. inr (twice.0, inputs-twice old (said_by c.loop-name.self) (map (λ name. name.now) c.args.names.now) c.loop-name.name-index _ twice.1 within (sym (get_or-map (λ name. name.now) c.args.names.now c.loop-name.name-index _ _ c.loop-name-test.true)) said))
    c.in_err-add_input.ensures)

pub returns : goal.returns
returns c =
    let old = said_by c.args.self.now in
    let said = c.loop-name.invariant.said ∙ ap (λ names. with_inputs old (old.inputs ++ map (λ name. name.now) names)) (take_all c.loop-name.name-index c.args.names.now c.loop-name-test.false) in
    (c.loop-name.invariant.kept, said, inputs-all old c.loop-name.self (map (λ name. name.now) c.args.names.now) c.loop-name.invariant.kept said)
