use Rattle.ncl_reader.proofs.Terms.{map, take, Contains}
use Rattle.ncl_reader.proofs.instance.has_pin.Given as goal

-- the pin is none so far
abbrev pub invariant-loop-own : goal.invariant-loop-own
invariant-loop-own l = Contains (map (λ own. own.now) (take l.own-index l.pins)) l.pin → ⊥
