use Rattle.ncl_verdict.proofs.Terms.{Base, Err, IfNone, IsReady, Some, SpaceData, StageData, Stop, ap, at_variant, keeps_along, stopped_within, subst, sym, ◌∙◌}
use Rattle.ncl_verdict.specs.declared.verdict.Verdict.TheVariants as verdict
use Rattle.ncl_verdict.proofs.InSpaceLaws.{stops, at-stopped, fits-new, nets-too_much, held-nets}
use Rattle.ncl_verdict.proofs.in_space.under_base.Goals as goal

pub at_outputs-requires-clause-held : goal.at_outputs-requires-clause-held
at_outputs-requires-clause-held g c = held-nets (g.P.Space.meaning c.args.space.now) (g.P.Space.meaning c.values.new.space) c.args.stage.now c.requires.width c.requires.new.held c.in-Ok.ensures.held

pub returns-in-Err-Full-clause-answer : goal.returns-in-Err-Full-clause-answer
returns-in-Err-Full-clause-answer g c =
    let s : StageData = c.args.stage.now in
    let old : SpaceData = g.P.Space.meaning c.args.space.now in
    let stop : Stop = stopped_within old.limit in
    at-stopped stop s Base (verdict.Limit s.number) (stops old.limit s Base (sym (fits-new old s c.requires.width c.requires.new.held) ∙ nets-too_much old s (c.in-Err-Full.ensures.full (ap Err c.in-Err-Full.field-0-is))))
    ∙ ap (λ (t : StageData). Some (verdict.Limit t.number)) (sym c.stage.view_is)

pub at_outputs-requires-clause-width : goal.at_outputs-requires-clause-width
at_outputs-requires-clause-width g c = c.in-Ok.ensures.kept.width ∙ c.requires.width

pub returns-in_err-verdict-clause-kept : goal.returns-in_err-verdict-clause-kept
returns-in_err-verdict-clause-kept g c =
    keeps_along (g.P.Space.meaning c.args.space.now) (g.P.Space.meaning c.values.new.space) (g.P.Space.meaning c.at_outputs.new.space) c.in-Ok.ensures.kept c.in_err-verdict.ensures.kept

pub returns-in-Some-clause-kept : goal.returns-in-Some-clause-kept
returns-in-Some-clause-kept g c =
    keeps_along (g.P.Space.meaning c.args.space.now) (g.P.Space.meaning c.values.new.space) (g.P.Space.meaning c.at_outputs.new.space) c.in-Ok.ensures.kept c.in_ok-verdict.ensures.kept

pub returns-in-None-clause-kept : goal.returns-in-None-clause-kept
returns-in-None-clause-kept g c =
    keeps_along (g.P.Space.meaning c.args.space.now) (g.P.Space.meaning c.values.new.space) (g.P.Space.meaning c.at_outputs.new.space) c.in-Ok.ensures.kept c.in_ok-verdict.ensures.kept

pub returns-in-Some-clause-answer : goal.returns-in-Some-clause-answer
returns-in-Some-clause-answer g c =
    sym (ap (λ limit. at_variant (stopped_within limit) c.args.stage.now Base) c.in-Ok.ensures.kept.limit) ∙ sym c.in_ok-verdict.ensures.answer ∙ c.in-Some.is

pub returns-in-None-clause-answer : goal.returns-in-None-clause-answer
returns-in-None-clause-answer g c = (
  sym (ap (λ limit. at_variant (stopped_within limit) c.args.stage.now Base) c.in-Ok.ensures.kept.limit) ∙ sym c.in_ok-verdict.ensures.answer ∙ c.in-None.is,
  subst (λ answer. IfNone answer (IsReady (g.P.Space.meaning c.at_outputs.new.space) c.args.stage.now c.in-Ok.base)) c.in-None.is c.in_ok-verdict.ensures.ready,
)
