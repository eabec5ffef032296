use Rattle.ncl_reader.proofs.Kept.{inl, bit_of_clash}
use Rattle.ncl_reader.proofs.known.Known.clashes.Goals as goal

pub returns : goal.returns
returns c = λ xs kept none. (
  λ e. inl ((c.is_bit.ensures xs kept.ranges).0 e),
  λ clashes. (c.is_bit.ensures xs kept.ranges).1 (bit_of_clash xs c.args.name.now none clashes),
)
