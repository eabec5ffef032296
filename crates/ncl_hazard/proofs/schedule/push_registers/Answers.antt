use Rattle.ncl_hazard.proofs.Terms.{Bit, Fire, List, None, [], ap, get_or, ◌++◌, ◌∙◌, ◌∷◌}
use Rattle.ncl_hazard.proofs.ScheduleLaws.{registers-more}
use Rattle.ncl_hazard.proofs.schedule.push_registers.Goals as goal

pub loop-bit-preserved : goal.loop-bit-preserved
loop-bit-preserved c =
    let d : Bit = record { rail0 = record { 0 = 0 }; rail1 = record { 0 = 0 }; ack = record { 0 = 0 }; start = None } in
    let bits : List Bit = c.args.bits.now in
    let k = c.loop-bit.bit-index in
    registers-more c.args.items.now.items c.loop-bit.items.items c.push-in-loop-bit.new.self.items bits k d c.loop-bit-test.true c.loop-bit.invariant
    (c.in_ok-push-2.ensures.items ∙ ap (λ xs. xs ++ Fire (get_or bits k d).rail1 ∷ []) c.in_ok-push.ensures.items)
