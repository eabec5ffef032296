use Rattle.ncl_match.proofs.StepLaws.{[], IsSome, arith, common_steps, found_more, get, nat_cmp, subst, sym, ◌++◌, ◌∙◌, ◌∷◌, ◌≡◌}
use Rattle.ncl_match.proofs.steps.look_up.Goals as goal

pub unwrap-number-requires : goal.unwrap-number-requires
unwrap-number-requires c =
    subst IsSome (sym (c.copied.ensures ∙ c.get.ensures.value)) (c.requires c.loop-signal.signal-index 0 (omega arith))

pub loop-signal-preserved : goal.loop-signal-preserved
loop-signal-preserved c =
    let more : c.push.new.self.items ≡ c.loop-signal.found.items ++ c.unwrap-number.result ∷ [] = grind (arith, common_steps) in
    found_more (get nat_cmp c.args.numbers.now) c.args.signals.now c.loop-signal.signal-index c.loop-signal.found.items c.push.new.self.items c.unwrap-number.result (omega arith) c.loop-signal.invariant (sym (c.copied.ensures ∙ c.get.ensures.value) ∙ c.unwrap-number.ensures) more
