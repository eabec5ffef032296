use Rattle.ncl_rails.proofs.held.is_covered.Goals as goal

pub returns-then-inputs_held : goal.returns-then-inputs_held
returns-then-inputs_held c = λ yes. record { inputs = c.inputs_held.ensures c.if-inputs_held.true; nodes = c.nodes_held.ensures yes }
