use Rattle.ncl_vcd.proofs.Terms.{Fire, Fired, IfSome, IsRunFrom, List, Some, State, ap, drop, drop_more, enabled-net, get_or, items_in, meaning, step, subst, sym, take, take_more, ◌+◌, ◌∙◌, ◌∷◌, ◌≡◌}
use Rattle.ncl_vcd.proofs.RunLaws.{AreSmall}
use Rattle.ncl_vcd.proofs.WritingLaws.{changes-step, small-push}
use Rattle.ncl_vcd.proofs.writing.push_changes.Goals as goal

-- the step that comes is enabled
pub fire-requires-clause-can : goal.fire-requires-clause-can
fire-requires-clause-can c =
    let i = c.loop-next.next-index in
    let fired : List Fired = c.args.fired.now in
    let d : Fired = record { time = 0; item = Fire (record { 0 = 0 }) } in
    let p = c.args.pipeline.now in
    let s : State = meaning c.loop-next.state in
    let run : IsRunFrom p s (items_in (get_or fired i d ∷ drop (i + 1) fired)) = subst (λ (l : List Fired). IsRunFrom p s (items_in l)) (drop_more fired i d c.loop-next-test.true) c.loop-next.invariant.run in
    run.0

pub loop-next-preserved : goal.loop-next-preserved
loop-next-preserved c =
    let i = c.loop-next.next-index in
    let fired : List Fired = c.args.fired.now in
    let d : Fired = record { time = 0; item = Fire (record { 0 = 0 }) } in
    let f : Fired = get_or fired i d in
    let p = c.args.pipeline.now in
    let s : State = meaning c.loop-next.state in
    let cut : drop i fired ≡ f ∷ drop (i + 1) fired = drop_more fired i d c.loop-next-test.true in
    let run : IsRunFrom p s (items_in (f ∷ drop (i + 1) fired)) = subst (λ (l : List Fired). IsRunFrom p s (items_in l)) cut c.loop-next.invariant.run in
    let named = enabled-net p s f.item run.0 in
    let net : c.in_ok-net.net.0 ≡ named.0 = subst (λ o. IfSome o (λ n. c.in_ok-net.net.0 ≡ n)) named.1 c.in_ok-net.ensures.net in
    let stepped : meaning c.fire.new.self ≡ step p s f.item = c.in_ok-net.ensures.done in
    record {
      made = c.in_ok-net.ensures.kept;
      run = subst (λ (t : State). IsRunFrom p t (items_in (drop (i + 1) fired))) (sym stepped) run.1;
      text = changes-step p s (meaning c.fire.new.self) (drop i fired) (drop (i + 1) fired) f c.loop-next.last c.in_ok-net.net.0 c.value.result c.loop-next.text.items c.push_change.new.text.items _ cut stepped (named.1 ∙ ap Some (sym net)) c.value.ensures c.in_ok-push_change.ensures.text c.loop-next.invariant.text;
      small = subst AreSmall (sym (take_more fired i d c.loop-next-test.true)) (small-push (take i fired) f c.loop-next.invariant.small c.push_change.ensures.small);
    }
