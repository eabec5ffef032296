use Rattle.ncl_stage.proofs.Terms.{false, get_or, map, range_with_len, ◌≡◌}
use Rattle.ncl_stage.specs.BitOrder.{place_in}
use Rattle.ncl_stage.proofs.input_order.BitOrder.placed.Given as goal

-- the bits so far
abbrev pub invariant-loop-bit : goal.invariant-loop-bit
invariant-loop-bit l = l.all ≡ map (λ bit. get_or l.word (place_in l.self bit) false) (range_with_len 0 l.bit)
