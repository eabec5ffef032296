use Rattle.ncl_reader.proofs.Bits.{length, sym, ◌∙◌, arith, drop_all, ap, length-append, ◌∷◌, bracket-front}
use Rattle.ncl_reader.proofs.bit.last_bracket.Goals as goal

pub loop-place-init : goal.loop-place-init
loop-place-init c = (omega arith, λ front rest e. omega (arith, ap length (sym (drop_all (length c.args.bytes.now) c.args.bytes.now (omega arith)) ∙ e), length-append front (91 ∷ rest)))

pub loop-place-preserved : goal.loop-place-preserved
loop-place-preserved c = (omega (arith, c.loop-place.invariant.0), bracket-front c.args.bytes.now c.loop-place.place c.loop-place-test.true c.loop-place.invariant.0 c.if-bytes-place-eq91.false c.loop-place.invariant.1)
