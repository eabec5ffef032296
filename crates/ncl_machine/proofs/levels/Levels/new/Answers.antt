use Rattle.ncl_machine.proofs.Terms.{AreCovered, Bool, List, ap, count_of, has_data, net_values, subst, sym, ◌∙◌}
use Rattle.ncl_machine.proofs.levels.Levels.new.Goals as goal

pub invariant_of-result : goal.invariant_of-result
invariant_of-result c =
    subst (λ bits. AreCovered (record { values = c.args.values.items; outputs = bits }) c.in_ok-mates.mates.items c.count_data-covered.result) (sym c.in_ok-outputs.ensures.items)
    (record {
      apart = c.requires.apart;
      within = c.requires.within;
      few = c.requires.few;
      as_many = c.in_ok-mates.ensures.as_many ∙ c.len.ensures ∙ c.args.values.ok.0;
      each = c.in_ok-mates.ensures.each;
      count = c.count_data-covered.ensures ∙ ap (λ (v : List Bool). count_of (has_data (net_values v)) c.args.outputs.now) c.deref.ensures.value;
    })
