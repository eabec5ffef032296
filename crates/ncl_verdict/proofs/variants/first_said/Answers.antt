use Rattle.ncl_verdict.proofs.Terms.{Base, Some, StageData, Stop, Variant, ap, arith, at_variant, get_or, length, stopped_within, sym, ◌∙◌, ◌≡◌, ◌≤◌}
use Rattle.ncl_verdict.proofs.InSpaceLaws.{first-none_at, first-none_more, first-some_at}
use Rattle.ncl_verdict.proofs.AskingLaws.{asked-limit}
use Rattle.ncl_verdict.proofs.variants.first_said.Goals as goal

pub returns-in-Some : goal.returns-in-Some
returns-in-Some g c =
    let s : StageData = c.args.asked.now.stage in
    let limit = (g.P.Space.meaning c.args.space.now).limit in
    let stop : Stop = stopped_within limit in
    let variants = c.args.variants.now in
    let i = c.loop-variant.variant-index in
    let variant : Variant = get_or variants i Base in
    let said : at_variant stop s (get_or variants i Base) ≡ Some c.in-Some.verdict =
    ap (λ l. at_variant (stopped_within l) s variant) (sym c.loop-variant.invariant.asked.same_limit)
    ∙ sym c.in_ok-verdict.ensures.answer ∙ c.in-Some.is in
    sym (first-some_at (at_variant stop s) variants i Base c.in-Some.verdict c.loop-variant-test.true (λ k d lt. c.loop-variant.invariant.none k lt d) said)

pub loop-variant-preserved : goal.loop-variant-preserved
loop-variant-preserved g c =
    let s : StageData = c.args.asked.now.stage in
    let limit = (g.P.Space.meaning c.args.space.now).limit in
    let same = c.loop-variant.invariant.asked.same_limit in
    let variant : Variant = get_or c.args.variants.now c.loop-variant.variant-index Base in
    record {
      asked = asked-limit _ _ limit c.args.asked.now same c.said_at.ensures.asked;
      none = first-none_more (at_variant (stopped_within limit) s) c.args.variants.now c.loop-variant.variant-index Base c.loop-variant-test.true c.loop-variant.invariant.none
          (ap (λ l. at_variant (stopped_within l) s variant) (sym same) ∙ sym c.in_ok-verdict.ensures.answer ∙ c.in_default.is);
    }

pub returns : goal.returns
returns g c =
    let variants = c.args.variants.now in
    let past : length variants ≤ c.loop-variant.variant-index = c.loop-variant-test.false in
    sym (first-none_at (at_variant (stopped_within (g.P.Space.meaning c.args.space.now).limit) c.args.asked.now.stage) variants (λ k d lt. c.loop-variant.invariant.none k (omega (arith, past, lt)) d))
