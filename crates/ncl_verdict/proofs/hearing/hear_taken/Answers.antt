use Rattle.ncl_verdict.proofs.Terms.{Base, IsAfterBase, List, SharedData, StageData, Variant, arith, get_or, length, length-set, subst, sym, ◌<◌, ◌∙◌}
use Rattle.ncl_verdict.proofs.AskingLaws.{asked-limit}
use Rattle.ncl_verdict.proofs.Parts.{said-place, silent-more}
use Rattle.ncl_verdict.proofs.hearing.hear_taken.Goals as goal

pub returns-in-Some : goal.returns-in-Some
returns-in-Some g c =
    let within : c.if-at-end.at < length c.variants-variants.result.now = omega (arith, c.if-at-variants.false) in
    record {
      silent = c.asking.invariant.silent;
      said = said-place c.args.shared.now _ c.asking.invariant.asked.same_limit _ c.requires.stage _ c.variants-variants.ensures.variants c.if-at-end.at Base within _ c.in_ok-verdict.ensures.answer ∙ c.in-Some.is;
    }

pub asking-preserved : goal.asking-preserved
asking-preserved g c =
    let within : c.if-at-end.at < length c.variants-variants.result.now = omega (arith, c.if-at-variants.false) in
    record {
      asked = asked-limit _ _ _ _ c.asking.invariant.asked.same_limit c.said_at.ensures.asked;
      long = length-set _ _ _ ∙ c.asking.invariant.long;
      silent = silent-more c.args.shared.now _ c.if-at-end.at c.asking.invariant.silent
          (said-place c.args.shared.now _ c.asking.invariant.asked.same_limit _ c.requires.stage _ c.variants-variants.ensures.variants c.if-at-end.at Base within _ c.in_ok-verdict.ensures.answer ∙ c.in_default.is);
    }

pub said_at-requires-clause-asked : goal.said_at-requires-clause-asked
said_at-requires-clause-asked g c = asked-limit _ _ _ _ (sym c.asking.invariant.asked.same_limit) c.asking.invariant.asked

pub said_at-requires-clause-after : goal.said_at-requires-clause-after
said_at-requires-clause-after g c =
    let shared : SharedData = c.args.shared.now in
    let at = c.if-at-end.at in
    let within : at < length c.variants-variants.result.now = omega (arith, c.if-at-variants.false) in
    let same = c.variants-variants.ensures.variants in
    subst (λ (s : StageData). IsAfterBase s (get_or c.variants-variants.result.now at Base)) (sym c.requires.stage)
    (subst (λ (variants : List Variant). IsAfterBase shared.stage (get_or variants at Base)) (sym same)
    (c.variants-variants.ensures.shared.after at Base (subst (λ (variants : List Variant). at < length variants) same within)))
