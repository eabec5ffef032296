use Rattle.ncl_template.proofs.Terms.{map, pin_bit, take, ◌≡◌}
use Rattle.ncl_template.proofs.form.is_set.Given as goal

abbrev pub invariant-loop-pin : goal.invariant-loop-pin
invariant-loop-pin l = l.values.items ≡ map (pin_bit l.word l.null l.inner) (take l.pin-index l.gate.pins.items)
