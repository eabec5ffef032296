use Rattle.ncl_token.proofs.Terms.{arith, false, get_or-map-range_with_len, white_test}
use Rattle.ncl_token.proofs.bytes.is_white.Goals as goal

pub returns : goal.returns
returns c = get_or-map-range_with_len white_test 0 256 c.args.byte c.args.byte false (omega (arith, c.ranges.byte.fits)) (omega arith)
