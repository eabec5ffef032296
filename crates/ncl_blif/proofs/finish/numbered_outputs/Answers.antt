use Rattle.ncl_blif.proofs.Terms.{All, NamedOutput, ap, is_driven, map, signal_number, subst, sym, take_all, true, ◌∙◌, ◌≡◌}
use Rattle.ncl_base.proofs.Growing.{map_push}
use Rattle.ncl_blif.proofs.finish.numbered_outputs.Goals as goal

pub number_in-requires : goal.number_in-requires
number_in-requires c =
    let draft = c.args.draft.now in
    let driven = subst (All (λ (output : NamedOutput). is_driven draft output.signal ≡ true)) (sym c.outputs-output-items.ensures) c.requires in
    ap (is_driven draft) c.signal.ensures ∙ ap (λ (output : NamedOutput). is_driven draft output.signal) c.output-item.is ∙ driven c.loop-output.output-index c.output-item.result c.loop-output-test.true

pub loop-output-preserved : goal.loop-output-preserved
loop-output-preserved c =
    let draft = c.args.draft.now in
    map_push (λ (output : NamedOutput). signal_number draft output.signal) c.outputs-output-items.result.now c.loop-output.output-index c.output-item.result c.loop-output.numbers.items c.push.new.self.items c.number_in.result c.loop-output-test.true c.loop-output.invariant
    (c.number_in.ensures ∙ ap (signal_number draft) c.signal.ensures ∙ ap (λ (output : NamedOutput). signal_number draft output.signal) c.output-item.is) c.in_ok-push.ensures.items

pub returns : goal.returns
returns c =
    c.from_vec.ensures ∙ c.loop-output.invariant ∙ ap (map (λ (output : NamedOutput). signal_number c.args.draft.now output.signal)) (take_all c.loop-output.output-index c.outputs-output-items.result.now c.loop-output-test.false ∙ c.outputs-output-items.ensures)
