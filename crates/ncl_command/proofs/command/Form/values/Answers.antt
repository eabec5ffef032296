use Rattle.ncl_command.proofs.Terms.{Bor, IfOk, List, form_read, map, option_map, subst, sym, values_found, values_of, ℕ}
use Rattle.std.specs.Prelude.{◌≡◌}
use Rattle.ncl_command.proofs.command.Form.values.Goals as goal

pub returns-in-Sim : goal.returns-in-Sim
returns-in-Sim c =
    subst (λ form. IfOk c.form_values-in-Sim.result (λ found. option_map values_found found ≡ values_of (form_read form) (map (λ (argument : Bor (List ℕ)). argument.now) c.args.arguments.now)))
    (sym c.in-Sim.is) c.form_values-in-Sim.ensures

pub returns-in-Match : goal.returns-in-Match
returns-in-Match c =
    subst (λ form. IfOk c.form_values-in-Match.result (λ found. option_map values_found found ≡ values_of (form_read form) (map (λ (argument : Bor (List ℕ)). argument.now) c.args.arguments.now)))
    (sym c.in-Match.is) c.form_values-in-Match.ensures
