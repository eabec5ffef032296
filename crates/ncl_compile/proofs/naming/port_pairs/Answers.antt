use Rattle.ncl_compile.proofs.Terms.{[], arith, common_steps, map-range_with_len_more, port_pair, ◌+◌, ◌-◌, ◌∷◌, ◌≡◌}
use Rattle.ncl_compile.proofs.naming.port_pairs.Goals as goal

pub loop-number-preserved : goal.loop-number-preserved
loop-number-preserved c =
    let more = map-range_with_len_more (port_pair (c.args.letter ∷ [])) 1 (c.loop-number.number - 1) c.loop-number.number (omega arith) in
    let here : c.loop-number.number - 1 + 1 ≡ c.loop-number.number + 1 - 1 = omega arith in
    grind (arith, common_steps)
