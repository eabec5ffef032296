use Rattle.ncl_reaching.proofs.Terms.{IsStage, [], arith, laid_out, length, subst, sym, ◌∙◌, ◌≡◌, ◌≤◌}
use Rattle.ncl_reaching.proofs.ChainLaws.{chained}
use Rattle.ncl_reaching.proofs.chain.source.Goals as goal

pub new-requires-2 : goal.new-requires-2
new-requires-2 c =
    let p = c.args.pipeline.now in
    let (l, is) = laid_out p c.facts.ensures in
    let none : 0 ≤ length p.stages = omega arith in
    let inputs : c.from_vec.result ≡ p.inputs = c.from_vec.ensures ∙ c.in_ok-inputs.ensures.items ∙ c.inputs.ensures.inputs in
    let cells : c.from_vec-2.result ≡ [] = c.from_vec-2.ensures ∙ c.new.ensures.items in
    let outputs : c.from_vec-3.result ≡ p.inputs = c.from_vec-3.ensures ∙ c.in_ok-outputs.ensures.items ∙ c.inputs-2.ensures.inputs in
    let parts : record { number = 0; inputs = c.from_vec.result; cells = c.from_vec-2.result; outputs = c.from_vec-3.result } ≡ record { number = 0; inputs = p.inputs; cells = []; outputs = p.inputs } = λ i. record { number = 0; inputs = inputs i; cells = cells i; outputs = outputs i } in
    subst IsStage (sym parts) (chained p c.facts.ensures l is 0 none).is_stage
