use Rattle.ncl_template.proofs.Terms.{AreInner, [], drop, inner_bits, length, ◌≡◌}
use Rattle.ncl_template.proofs.form.inner_bits.Given as goal

-- what is left gives the bits
abbrev pub invariant-loop-gate : goal.invariant-loop-gate
invariant-loop-gate l = record {
  bits : inner_bits l.word l.null l.low l.bits.items (drop l.gate-index l.inner) ≡ inner_bits l.word l.null l.low [] l.inner;
  left : AreInner (length l.word) l.gate-index (drop l.gate-index l.inner);
  count : length l.bits.items ≡ l.gate-index;
}
