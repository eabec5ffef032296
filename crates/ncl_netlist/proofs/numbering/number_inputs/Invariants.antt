use Rattle.ncl_netlist.proofs.Terms.{[], length, net_of, ◌+◌, ◌∷◌, ◌≡◌, ◌≤◌}
use Rattle.ncl_netlist.proofs.Steps.{Numbered}
use Rattle.ncl_netlist.proofs.numbering.number_inputs.Given as goal

abbrev pub invariant-loop-input : goal.invariant-loop-input
invariant-loop-input l =
    Numbered net_of (λ x. x ∷ []) l.initial.names.keys l.yielded l.names.keys l.ins.items
    × (length l.names.keys ≤ length l.initial.names.keys + length l.yielded)
    × (length l.ins.items ≡ length l.yielded)
