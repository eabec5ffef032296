use Rattle.ncl_compile.proofs.Terms.{arith, common_steps, inner_pair, map-range_with_len_more}
use Rattle.ncl_compile.proofs.naming.inner_pairs.Goals as goal

pub loop-bit-preserved : goal.loop-bit-preserved
loop-bit-preserved c =
    let more = map-range_with_len_more (inner_pair c.args.bank) 0 c.loop-bit.bit c.loop-bit.bit (omega arith) in
    grind (arith, common_steps)
