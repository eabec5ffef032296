use Rattle.ncl_reader.proofs.Bits.{refl, sym, subst, arith, Covers, outside_large}
use Rattle.ncl_reader.proofs.number.lies_outside.Goals as goal

pub returns-in-None : goal.returns-in-None
returns-in-None c = (
  λ e covers. outside_large c.args.span c.without_zeros.result.now (omega arith) (omega arith) c.without_zeros.ensures.digits c.without_zeros.ensures.first c.in-None.ensures (subst (Covers c.args.span) (sym c.without_zeros.ensures.value) covers),
  λ none. refl,
)
