use Rattle.ncl_verdict.proofs.Terms.{All, AreReaches, Covers, IsWithin, List, ReadyData, StageData, WiringData, ap, arith, length, lost_mask, nets-length, nets_of, outputs-within, stopped_at, subst, sum_by, sym, weight_lost, weight_of, ℕ, ◌<◌, ◌∙◌, ◌≡◌, ◌≤◌}
use Rattle.std.specs.FinSet as set
use Rattle.ncl_verdict.proofs.FewLaws.{count-few}
use Rattle.ncl_verdict.proofs.Sound.{base-valid}
use Rattle.ncl_verdict.proofs.few.are_few.Goals as goal

pub most_lost-most-requires-clause-outputs : goal.most_lost-most-requires-clause-outputs
most_lost-most-requires-clause-outputs c =
    subst (All (λ pair. (pair.0 < length c.as_slice-3.result.now) × (pair.1 < length c.as_slice-3.result.now))) (sym (c.outputs.ensures ∙ ap (λ (w : WiringData). w.outputs) c.wiring.ensures))
    (outputs-within c.ready.inside.stage.now c.facts.ensures c.ready.inside.base.wiring c.ready.invariant.ready.values.wired (length c.as_slice-3.result.now) (ap length c.as_slice-3.ensures.value ∙ c.in_ok-masks.ensures.many ∙ ap length c.ready.invariant.ready.values.wired.nets))

pub most_lost-most-requires-clause-bits : goal.most_lost-most-requires-clause-bits
most_lost-most-requires-clause-bits c =
    let bits = ap length (c.items-bits.ensures ∙ ap (λ (t : StageData). t.inputs) c.stage.view_is) in
    let many = ap length c.as_slice-4.ensures.value ∙ c.in_ok-reaches.ensures.many ∙ ap length c.as_slice.ensures.value ∙ c.in_ok-masks.ensures.many ∙ ap length c.ready.invariant.ready.values.wired.nets in
    omega (arith, bits, many, nets-length c.ready.inside.stage.now)

pub returns : goal.returns
returns c = λ enough.
    let s : StageData = c.ready.inside.stage.now in
    let w : WiringData = c.ready.inside.base.wiring in
    let masks : List ℕ = c.in_ok-masks.masks.items in
    let reaches : List ℕ = c.in_ok-reaches.reaches.items in
    let nets : ℕ = c.net_weights-nets.result in
    let most : ℕ = c.most_lost-most.result in
    let (few_nets, few_lost, within) = c.are_within.ensures enough in
    let size : length c.as_slice-4.result.now ≡ length (nets_of s.inputs s.cells) = ap length c.as_slice-4.ensures.value ∙ c.in_ok-reaches.ensures.many ∙ ap length c.as_slice.ensures.value ∙ c.in_ok-masks.ensures.many ∙ ap length c.ready.invariant.ready.values.wired.nets in
    let bits = ap length (c.items-bits.ensures ∙ ap (λ (t : StageData). t.inputs) c.stage.view_is) in
    let outputs = c.outputs.ensures ∙ ap (λ (v : WiringData). v.outputs) c.wiring.ensures in
    let net_sum : sum_by weight_of masks ≤ nets = subst (λ (l : List ℕ). Covers (sum_by weight_of l) nets) c.as_slice-2.ensures.value c.net_weights-nets.ensures few_nets in
    subst (λ (r : ReadyData). IsWithin r.limit r.stage) c.ready.view_is (λ variant among. count-few s c.facts.ensures (base-valid (stopped_at c.ready.inside.limit) s c.ready.invariant.nothing) w c.ready.invariant.ready.values.wired c.ready.invariant.ready.order masks reaches (c.in_ok-masks.ensures.many ∙ ap length c.ready.invariant.ready.values.wired.nets) c.in_ok-masks.ensures.masks
    (subst (λ (l : List ℕ). AreReaches 0 (length s.inputs) w l reaches) c.as_slice.ensures.value c.in_ok-reaches.ensures.reaches)
    most
    (λ place lt. subst (λ n. n ≤ most) (λ i. weight_lost (c.as_slice-3.ensures.value i) (outputs i) (lost_mask (bits i) (c.as_slice-4.ensures.value i) place)) (c.most_lost-most.ensures place (omega (arith, lt, size)) few_lost))
    c.nodes.result c.ready.inside.limit (c.nodes.ensures.held ∙ ap set.len c.ready.invariant.ready.held)
    (omega (arith, net_sum, within))
    variant)
