use Rattle.ncl_machine.proofs.Terms.{LevelsData, ap, has_data, is_null, nat_eq, net_values, subst, sym, ◌∙◌, ◌≡◌}
use Rattle.ncl_machine.proofs.Counts.{count-none}
use Rattle.ncl_machine.proofs.levels.Levels.are_null.Goals as goal

pub returns : goal.returns
returns c =
    subst (λ (d : LevelsData). nat_eq c.self.inside.covered 0 ≡ is_null d.outputs (net_values d.values)) c.self.view_is
    (ap (λ n. nat_eq n 0) c.self.invariant.count ∙ sym (count-none (has_data (net_values c.self.inside.values.items)) c.self.inside.outputs.items))
