use Rattle.ncl_verdict.proofs.Terms.{Base, Err, IfOk-weaker, None, Some, SpaceData, StageData, Stop, ValuesData, ap, at_variant, bit_order, first_rail_fault_by, fits, have-kept, net_tables_by, option_map, rail_verdict, stopped_within, sym, tables_by, with_tables, ◌∙◌, ◌≡◌}
use Rattle.ncl_verdict.specs.declared.verdict.Verdict.TheVariants as verdict
use Rattle.ncl_verdict.proofs.InSpaceLaws.{stops, goes_on, at-stopped, at-asked, fits-base, held-base, said-of_outputs, fault-within}
use Rattle.ncl_verdict.proofs.in_space.at_outputs.Goals as goal

pub told-requires : goal.told-requires
told-requires g c = fault-within c.args.stage.now c.in-Ok-Some.fault (ap (λ order. first_rail_fault_by order c.args.stage.now) (sym c.requires.order) ∙ sym c.in-Ok-Some.ensures.found ∙ c.in-Ok-Some.field-0-is)

pub returns-in-Ok-Some-clause-answer : goal.returns-in-Ok-Some-clause-answer
returns-in-Ok-Some-clause-answer g c =
    let s : StageData = c.args.stage.now in
    let old : SpaceData = g.P.Space.meaning c.args.space.now in
    let first : first_rail_fault_by (bit_order s) s ≡ Some c.in-Ok-Some.fault = ap (λ order. first_rail_fault_by order s) (sym c.requires.order) ∙ sym c.in-Ok-Some.ensures.found ∙ c.in-Ok-Some.field-0-is in
    let asked = goes_on old.limit s Base (sym (ap (λ order. fits old (tables_by order s Base)) c.requires.order ∙ fits-base old s c.requires.width c.requires.held) ∙ c.in-Ok-Some.ensures.fits) in
    ap Some c.told.ensures ∙ sym (at-asked (stopped_within old.limit) s Base asked ∙ said-of_outputs s ∙ ap (option_map (rail_verdict s)) first)

pub returns-in-Ok-None-clause-answer : goal.returns-in-Ok-None-clause-answer
returns-in-Ok-None-clause-answer g c =
    let s : StageData = c.args.stage.now in
    let old : SpaceData = g.P.Space.meaning c.args.space.now in
    let first : first_rail_fault_by (bit_order s) s ≡ None = ap (λ order. first_rail_fault_by order s) (sym c.requires.order) ∙ sym c.in-Ok-None.ensures.found ∙ c.in-Ok-None.field-0-is in
    let asked = goes_on old.limit s Base (sym (ap (λ order. fits old (tables_by order s Base)) c.requires.order ∙ fits-base old s c.requires.width c.requires.held) ∙ c.in-Ok-None.ensures.fits) in
    sym (at-asked (stopped_within old.limit) s Base asked ∙ said-of_outputs s ∙ ap (option_map (rail_verdict s)) first)

pub returns-in-Ok-None-clause-ready : goal.returns-in-Ok-None-clause-ready
returns-in-Ok-None-clause-ready g c =
    let s : StageData = c.args.stage.now in
    let base : ValuesData = c.args.base.now in
    let old : SpaceData = g.P.Space.meaning c.args.space.now in
    let new : SpaceData = g.P.Space.meaning c.valid_rails.new.space in
    record {
      width = c.valid_rails.ensures.kept.width ∙ c.requires.width;
      values = record { wired = c.requires.base.wired; shown = have-kept old new base.refs (net_tables_by base.wiring.order s Base) c.valid_rails.ensures.kept c.requires.base.shown };
      order = c.requires.order;
      held = held-base old new s c.requires.width c.requires.held (c.in-Ok-None.ensures.held ∙ ap (λ order. with_tables old (tables_by order s Base)) c.requires.order);
    }

pub returns-in-Err-clause-answer : goal.returns-in-Err-clause-answer
returns-in-Err-clause-answer g c =
    let s : StageData = c.args.stage.now in
    let old : SpaceData = g.P.Space.meaning c.args.space.now in
    let stop : Stop = stopped_within old.limit in
    IfOk-weaker c.stopped.result _ (λ answer. answer ≡ at_variant stop s Base)
    (λ answer said. said.1 ∙ sym (at-stopped stop s Base (verdict.Limit s.number)
    (stops old.limit s Base (sym (ap (λ order. fits old (tables_by order s Base)) c.requires.order ∙ fits-base old s c.requires.width c.requires.held) ∙ c.in-Err.ensures.full (ap Err said.0)))))
    c.stopped.ensures
