use Rattle.std.proofs.Common.{◌≡◌, ℕ, ◌++◌, List, length, map}
use Rattle.ncl_blif.proofs.TextLines.{IsBegun}
use Rattle.ncl_blif.proofs.line.next_line.Given as goal

abbrev pub invariant-loop-rest : goal.invariant-loop-rest
invariant-loop-rest l =
    (said : List (List ℕ)) × (map (λ field. field.now) l.fields.items ≡ map (λ field. field.now) l.initial.fields.items ++ said) × IsBegun l.number l.text said l.next l.rest

abbrev pub decreases-loop-rest : goal.decreases-loop-rest
decreases-loop-rest l = length l.rest
