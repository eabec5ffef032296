use Rattle.ncl_network.proofs.Terms.{ap, arith, beq, length, nat_tests, ◌<◌, ◌∙◌}
use Rattle.ncl_network.proofs.Covers.{cover_value-by_rows}
use Rattle.ncl_network.proofs.cover.cover_bit.Goals as goal

pub returns : goal.returns
returns c =
    let some : 0 < length c.args.rows.now = grind (arith, nat_tests) in
    ap (λ b. beq b c.args.on) c.some_matches.ensures ∙ cover_value-by_rows c.args.on c.args.rows.now c.args.bits.now some
