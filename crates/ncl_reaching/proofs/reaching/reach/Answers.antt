use Rattle.ncl_reaching.proofs.Terms.{Answers, CanFollow, Err, Found, IfOk-weaker, IsPastLimit, List, Means, Option, PipelineData, Some, StageData, ap, ascending, fault_of, first_reached, first_shown, get_or, inputs_of_chain, length, option_map, place_read, reached-insensitive, shown_of, slice_get, subst, sym, ℕ, ◌<◌, ◌∙◌, ◌≡◌, ◌≤◌}
use Rattle.ncl_reaching.proofs.ChainLaws.{can-follow-here}
use Rattle.ncl_reaching.proofs.ReachingLaws.{all-sound}
use Rattle.ncl_reaching.proofs.StageTurn.{IsTurn, answer-here, counted-here, ends-here, fault-brought, first-found, found-here, means-here, next-is, past-limit, sound-accepted, sound-asked, wide-here, within-here, word-told}
use Rattle.ncl_reaching.proofs.reaching.reach.Goals as goal
use Rattle.ncl_reaching.proofs.reaching.reach.Goals.{In_ok-chain-2}

-- the stage of the turn stands at its place
stands : (p : PipelineData) {stages : List StageData} {k : ℕ} {s : StageData} → stages ≡ p.stages → s ≡ get_or stages k s → k < length stages → slice_get p.stages k ≡ Some s
stands p {stages} {k} {s} same is lt = place_read p.stages stages k s same is (subst (λ (xs : List StageData). k < length xs) same lt)

turn : (c : In_ok-chain-2) → IsTurn c.args.pipeline.now c.loop-stage.stage-index c.stage-item.result c.loop-stage.chain c.in_ok-chain-2.chain
turn c = record {
  shape = c.facts.ensures;
  at = stands c.args.pipeline.now c.stages-stage-items.ensures.stages c.stage-item.is c.loop-stage-test.true;
  sound = c.loop-stage.invariant.sound;
  was = c.loop-stage.invariant.chained;
  now = c.in_ok-chain-2.ensures;
}

-- what is found in it
found : {p : PipelineData} {k : ℕ} {s front c : StageData} (t : IsTurn p k s front c) {o : Option Found} (f : Found)
    → option_map shown_of o ≡ first_shown (inputs_of_chain (ascending c) c s) s → o ≡ Some f → first_reached p k s ≡ Some (fault_of f.fault, f.input)
found t {o} f is some = sym (first-found t (option_map shown_of o) is) ∙ ap (option_map shown_of) some

pub follow-requires : goal.follow-requires
follow-requires c =
    subst (λ f. CanFollow f c.stage-item.result) (sym c.loop-stage.invariant.chained)
    (can-follow-here c.args.pipeline.now c.facts.ensures c.loop-stage.stage-index c.stage-item.result (stands c.args.pipeline.now c.stages-stage-items.ensures.stages c.stage-item.is c.loop-stage-test.true))

pub loop-stage-preserved-then-branch : goal.loop-stage-preserved-then-branch
loop-stage-preserved-then-branch c =
    let t = turn (goal.at.loop-stage-preserved-then-branch c).In_ok-chain-2 in
    record { chained = next-is t; sound = sound-accepted t (c.in_ok-is_sound.ensures c.if-branch.true) }

pub ask-requires-clause-ends : goal.ask-requires-clause-ends
ask-requires-clause-ends c =
    ends-here (turn (goal.at.ask-requires-clause-ends c).In_ok-chain-2)

pub returns-in-Err-Full-clause-answers : goal.returns-in-Err-Full-clause-answers
returns-in-Err-Full-clause-answers c =
    subst (λ n. IsPastLimit c.args.pipeline.now n c.args.limit) (sym (ap (λ (t : StageData). t.number) c.stage.view_is))
    (past-limit (turn (goal.at.returns-in-Err-Full-clause-answers c).In_ok-chain-2) c.args.limit (c.in-Err-Full.ensures.full (ap Err c.in-Err-Full.field-0-is)))

pub shown-requires-clause-fault : goal.shown-requires-clause-fault
shown-requires-clause-fault c =
    let t = turn (goal.at.shown-requires-clause-fault c).In_ok-chain-2 in
    (found-here t (found t c.in-Some.found c.in-Ok.ensures.found c.in-Some.is)).of_stage

pub shown-requires-clause-wide : goal.shown-requires-clause-wide
shown-requires-clause-wide c =
    let t = turn (goal.at.shown-requires-clause-wide c).In_ok-chain-2 in
    wide-here t (found t c.in-Some.found c.in-Ok.ensures.found c.in-Some.is)

pub shown-requires-clause-within : goal.shown-requires-clause-within
shown-requires-clause-within c =
    within-here (turn (goal.at.shown-requires-clause-within c).In_ok-chain-2)

pub shown-requires-clause-number : goal.shown-requires-clause-number
shown-requires-clause-number c =
    counted-here (turn (goal.at.shown-requires-clause-number c).In_ok-chain-2)

pub shown-requires-clause-word : goal.shown-requires-clause-word
shown-requires-clause-word c =
    let t = turn (goal.at.shown-requires-clause-word c).In_ok-chain-2 in
    word-told t (found t c.in-Some.found c.in-Ok.ensures.found c.in-Some.is)

pub shown-requires-clause-brought : goal.shown-requires-clause-brought
shown-requires-clause-brought c =
    let t = turn (goal.at.shown-requires-clause-brought c).In_ok-chain-2 in
    fault-brought t (found t c.in-Some.found c.in-Ok.ensures.found c.in-Some.is)

pub returns-in-Some-clause-answers : goal.returns-in-Some-clause-answers
returns-in-Some-clause-answers c =
    let t = turn (goal.at.returns-in-Some-clause-answers c).In_ok-chain-2 in
    IfOk-weaker c.shown.result _ (Answers c.args.pipeline.now c.args.limit) (answer-here t (found t c.in-Some.found c.in-Ok.ensures.found c.in-Some.is) c.args.limit) c.shown.ensures

pub returns-in-Some-clause-means : goal.returns-in-Some-clause-means
returns-in-Some-clause-means c =
    let t = turn (goal.at.returns-in-Some-clause-means c).In_ok-chain-2 in
    IfOk-weaker c.shown.result _ (Means c.args.pipeline.now) (means-here t (found t c.in-Some.found c.in-Ok.ensures.found c.in-Some.is)) c.shown.ensures

pub loop-stage-preserved : goal.loop-stage-preserved
loop-stage-preserved c =
    let t = turn (goal.at.loop-stage-preserved c).In_ok-chain-2 in
    let none = sym (first-found t (option_map shown_of c.in-Ok.found) c.in-Ok.ensures.found) ∙ ap (option_map shown_of) c.in_default.is in
    record { chained = next-is t; sound = sound-asked t none }

pub returns-clause-answers : goal.returns-clause-answers
returns-clause-answers c =
    let past = subst (λ (xs : List StageData). length xs ≤ c.loop-stage.stage-index) c.stages-stage-items.ensures.stages c.loop-stage-test.false in
    all-sound c.args.pipeline.now c.loop-stage.stage-index past c.loop-stage.invariant.sound

pub returns-clause-means : goal.returns-clause-means
returns-clause-means c = λ null.
    let past = subst (λ (xs : List StageData). length xs ≤ c.loop-stage.stage-index) c.stages-stage-items.ensures.stages c.loop-stage-test.false in
    reached-insensitive c.args.pipeline.now c.facts.ensures null (all-sound c.args.pipeline.now c.loop-stage.stage-index past c.loop-stage.invariant.sound)
