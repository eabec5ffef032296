use Rattle.ncl_machine.proofs.Terms.{LevelsData, ap, count_of, has_data, is_data, nat_eq, net_values, subst, sym, ◌∙◌, ◌≡◌}
use Rattle.ncl_machine.proofs.Counts.{count-all}
use Rattle.ncl_machine.proofs.levels.Levels.are_data.Goals as goal

pub returns : goal.returns
returns c =
    subst (λ (d : LevelsData). nat_eq c.self.inside.covered c.len.result ≡ is_data d.outputs (net_values d.values)) c.self.view_is
    (ap (λ n. nat_eq n c.len.result) c.self.invariant.count ∙ ap (λ n. nat_eq (count_of (has_data (net_values c.self.inside.values.items)) c.self.inside.outputs.items) n) (c.len.ensures ∙ c.self.inside.outputs.ok.0)
    ∙ sym (count-all (has_data (net_values c.self.inside.values.items)) c.self.inside.outputs.items))
