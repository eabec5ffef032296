use Rattle.ncl_reader.proofs.Bits.{false≢true, no_bit, some_bit, bit_covers, no_vector_bit}
use Rattle.ncl_reader.proofs.names.is_bit.Goals as goal

pub returns-in_default : goal.returns-in_default
returns-in_default c = λ xs is. (λ e. absurd (false≢true e), λ bit. absurd (no_bit c.args.ranges.now xs is c.args.name.now c.in_default.ensures bit))

pub returns-in-Some-vector : goal.returns-in-Some-vector
returns-in-Some-vector c = λ xs is. (
  λ e. some_bit c.args.ranges.now xs is c.args.name.now c.in-Some.vector.now c.in-Some.number c.in-Some.ensures.0 c.in-Some.ensures.1 c.in-Some-vector.span c.in-Some-vector.ensures (c.covers.ensures.0 e),
  λ bit. c.covers.ensures.1 (bit_covers c.args.ranges.now xs is c.args.name.now c.in-Some.vector.now c.in-Some.number c.in-Some.ensures.0 c.in-Some.ensures.1 c.in-Some-vector.span c.in-Some-vector.ensures bit),
)

pub returns-in-None : goal.returns-in-None
returns-in-None c = λ xs is. (
  λ e. absurd (false≢true e),
  λ bit. absurd (no_vector_bit c.args.ranges.now xs is c.args.name.now c.in-Some.vector.now c.in-Some.number c.in-Some.ensures.0 c.in-Some.ensures.1 c.in-None.ensures bit),
)
