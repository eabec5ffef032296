use Rattle.ncl_stage.proofs.Terms.{WiringData, ap, arith, length, subst, sym, ◌<◌, ◌∙◌}
use Rattle.ncl_stage.proofs.changes.net_refs_from.Goals as goal

pub new-requires : goal.new-requires
new-requires g c =
    let many = ap length c.refs.ensures.refs ∙ c.refs.ensures.many in
    let within = subst (λ (w : WiringData). (c.forced_places-places.result.0 < length w.nets) × (c.forced_places-places.result.1 < length w.nets)) c.wiring.ensures c.forced_places-places.ensures.within in
    (omega (arith, many, within.0), omega (arith, many, within.1))

-- what doesn't wait isn't kept low, and no place is known yet
pub follow-requires-clause-waiting : goal.follow-requires-clause-waiting
follow-requires-clause-waiting g c = record {
  many = c.in_ok-changes.ensures.many ∙ (ap length c.refs.ensures.refs ∙ c.refs.ensures.many);
  low = λ place after lt none.
      let apart = c.in_ok-changes.ensures.others place none in
      c.forced_places-places.ensures.others place (subst (λ (w : WiringData). place < length w.nets) (sym c.wiring.ensures) lt) apart.0 apart.1;
  read = λ cell place after lt none reads earlier. absurd (omega (arith, earlier));
}
