use Rattle.ncl_vcd.proofs.Terms.{characters_left, identifier_code, ◌++◌, ◌≡◌}
use Rattle.ncl_vcd.proofs.code.push_code.Given as goal

-- with what is left of the number the code is whole
abbrev pub invariant-loop-left : goal.invariant-loop-left
invariant-loop-left l = l.text.items ++ characters_left l.left l.left ≡ l.fn.text.items ++ identifier_code l.number

abbrev pub decreases-loop-left : goal.decreases-loop-left
decreases-loop-left l = l.left
