use Rattle.ncl_reach_top.proofs.Terms.{HasNoDataBank, IsFalse, IsPipelineReply, IsTrue, Unjudged, held, never, rules, sound, subst, sym}
use Rattle.ncl_reach_top.proofs.replying.never.Goals as goal

pub returns-then-data_banks-eq0 : goal.returns-then-data_banks-eq0
returns-then-data_banks-eq0 c =
    let null : HasNoDataBank c.args.pipeline.now = search rules in
    c.accepted.ensures (never null c.requires.answers)

pub returns-then-branch : goal.returns-then-branch
returns-then-branch c =
    let is : IsTrue c.in_ok-is_sound.field-0 = search rules in
    c.accepted-then-branch.ensures (sound (c.in_ok-is_sound.ensures.yes is))

pub returns : goal.returns
returns c =
    let some : HasNoDataBank c.args.pipeline.now → ⊥ = λ null. search rules in
    let isnt : IsFalse c.in_ok-is_sound.field-0 = search rules in
    subst (IsPipelineReply c.args.limit c.args.pipeline.now Unjudged) (sym c.in_ok-text.ensures) (held some (c.in_ok-is_sound.ensures.no isnt) c.requires.answers)
