use Rattle.ncl_hazard.proofs.Terms.{All, Fire, IfOk, InRange, Item, Loses, State, [], coming, enabled, going, meaning, reset, rules, subst, sym, tried, ◌++◌, ◌+◌, ◌∙◌, ◌∷◌, ◌≡◌, ◌≢◌}
use Rattle.ncl_hazard.proofs.ShownLaws.{all-comes, cell-within, coming-all, going-all, order-of}
use Rattle.ncl_hazard.proofs.explaining.shown_run.Goals as goal

pub losing_run-requires : goal.losing_run-requires
losing_run-requires c =
    let p = c.args.pipeline.now in
    let order = c.order-order.result.now in
    let ord = order-of p.netlist c.origins.result.now order c.origins.ensures.origins c.order-order.ensures.order in
    let first : c.deref.result.now ≡ coming p (c.args.before + 1) c.args.cell = c.deref.ensures.value ∙ c.in_ok-coming.ensures in
    let then_on : c.deref-2.result.now ≡ going p (c.args.before + 1) c.args.cell order = c.deref-2.ensures.value ∙ c.in_ok-going.ensures in
    let started : meaning c.in_ok-state.state ≡ reset p (c.args.input.now ∷ []) = c.in_ok-state.ensures.reset in
    let all = all-comes p c.facts.ensures c.args.before c.args.cell c.args.input.now c.requires.brings c.requires.null c.requires.sound order ord in
    record {
      made = search rules;
      cell = cell-within p c.facts.ensures c.args.before c.args.cell c.args.input.now c.requires.brings;
      coming = subst (All (InRange p)) (sym first) (coming-all p c.facts.ensures c.args.before c.args.cell c.args.input.now c.requires.brings);
      going = subst (All (InRange p)) (sym then_on) (going-all p c.facts.ensures c.args.before c.args.cell c.args.input.now c.requires.brings c.requires.null c.requires.sound order ord);
      others = subst (All (λ (item : Item). item ≢ Fire c.args.cell)) (sym then_on) all.others;
      comes = (λ i. enabled p (tried p (started i) (first i)) (Fire c.args.cell)) ∙ all.comes;
      goes = (λ i. enabled p (tried p (started i) (first i ++ then_on i)) (Fire c.args.cell)) ∙ all.goes;
    }

pub returns : goal.returns
returns c =
    let p = c.args.pipeline.now in
    let started : meaning c.in_ok-state.state ≡ reset p (c.args.input.now ∷ []) = c.in_ok-state.ensures.reset in
    subst (λ (s : State). IfOk c.losing_run.result (λ run. Loses p s c.args.cell run.items)) started c.losing_run.ensures
