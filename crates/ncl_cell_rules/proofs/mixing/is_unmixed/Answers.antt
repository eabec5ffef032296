use Rattle.ncl_cell_rules.proofs.Terms.{Ack, Gate, ap, both_ways, is_register, sym, ◌∙◌, ◌≡◌}
use Rattle.ncl_cell_rules.proofs.mixing.is_unmixed.Goals as goal

pub returns-in-Ack : goal.returns-in-Ack
returns-in-Ack c = (
  (λ holds. record {
    gate = λ kind is_gate. let clash : Gate kind ≡ Ack = sym is_gate ∙ c.in-Ack.is in absurd cc;
    register = λ register. absurd (both_ways (is_register c.args.cell.now.kind) (ap is_register c.in-Ack.is) register);
    ack = λ is_ack. c.is_ack_of_one.ensures.0 holds;
  }),
  λ unmixed. c.is_ack_of_one.ensures.1 (unmixed.ack c.in-Ack.is),
)
