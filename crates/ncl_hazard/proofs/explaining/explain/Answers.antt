use Rattle.ncl_hazard.proofs.Terms.{CellId, Err, Explained, IsExplained, IsPlaceOf, List, Loses, PipelineData, Some, StageData, StandsAt, TellsOfCell, [], ap, get_or, handed_on, no_entry, reset, slice_get, slice_get_within, subst, sym, why_count, ℕ, ◌-◌, ◌∙◌, ◌∷◌, ◌≡◌, ◌≤◌}
use Rattle.ncl_hazard.proofs.InputLaws.{stage-at}
use Rattle.ncl_hazard.proofs.OrphanPlaces.{stands-somewhere}
use Rattle.ncl_hazard.proofs.ShownLaws.{brings-least}
use Rattle.ncl_hazard.proofs.explaining.explain.Goals as goal

-- the stage that is read, and the place of the cell there
own-read : (p : PipelineData) (stages : List StageData) (before : ℕ) (read own : StageData) → stages ≡ p.stages → read ≡ get_or stages before read → slice_get p.stages before ≡ Some own → read ≡ own
own-read p stages before read own same is at = stage-at p stages before read own same is (slice_get_within p.stages before own at) at

place-own : (p : PipelineData) (stages : List StageData) (before : ℕ) (cell : CellId) (place : ℕ) (read own : StageData) → stages ≡ p.stages → read ≡ get_or stages before read → StandsAt read cell place → slice_get p.stages before ≡ Some own → IsPlaceOf p before cell own place
place-own p stages before cell place read own same is stands at =
    (at, subst (λ (s : StageData). StandsAt s cell place) (own-read p stages before read own same is at) stands)

explained-at : (p : PipelineData) (before : ℕ) (cell : CellId) (limit : ℕ) (own : StageData) (place : ℕ) (told : Explained) → IsPlaceOf p before cell own place → why_count p before place ≤ limit → TellsOfCell p before cell own place told → IsExplained p before cell limit told
explained-at p before cell limit own place told of_cell within tells = record { own = own; place = place; of_cell = of_cell; within = within; tells = tells }

pub place_of-place-requires : goal.place_of-place-requires
place_of-place-requires c =
    let o = c.requires.orphan in
    subst (λ (s : StageData). (place : ℕ) × StandsAt s c.args.cell place) (sym (own-read c.args.pipeline.now c.stages.result.now (c.args.stage - 1) c.index-stages-before.result o.own c.stages.ensures.stages c.index-stages-before.is o.at))
    (stands-somewhere o.own o.limit o.number c.args.cell o.word o.judged)

pub least_bringing-requires-clause-within : goal.least_bringing-requires-clause-within
least_bringing-requires-clause-within c = slice_get_within c.args.pipeline.now.stages (c.args.stage - 1) c.requires.orphan.own c.requires.orphan.at

pub least_bringing-requires-clause-cell : goal.least_bringing-requires-clause-cell
least_bringing-requires-clause-cell c = λ s at.
    let (_, stands) = place-own c.args.pipeline.now c.stages.result.now (c.args.stage - 1) c.args.cell c.place_of-place.result c.index-stages-before.result s c.stages.ensures.stages c.index-stages-before.is c.place_of-place.ensures at in
    slice_get_within s.cells c.place_of-place.result stands.0 stands.1

pub returns-in_err-input-clause-full : goal.returns-in_err-input-clause-full
returns-in_err-input-clause-full c = λ e.
    let o = c.requires.orphan in
    record {
      own = o.own;
      place = c.place_of-place.result;
      of_cell = place-own c.args.pipeline.now c.stages.result.now (c.args.stage - 1) c.args.cell c.place_of-place.result c.index-stages-before.result o.own c.stages.ensures.stages c.index-stages-before.is c.place_of-place.ensures o.at;
      past = c.in_err-input.ensures.full (ap Err (handed_on c.from_residual.result c.in_err-input.field-0.0 c.from_residual.ensures.1 e));
    }

pub returns-in_default-clause-explained : goal.returns-in_default-clause-explained
returns-in_default-clause-explained c =
    let o = c.requires.orphan in
    explained-at c.args.pipeline.now (c.args.stage - 1) c.args.cell c.args.limit o.own c.place_of-place.result _ (place-own c.args.pipeline.now c.stages.result.now (c.args.stage - 1) c.args.cell c.place_of-place.result c.index-stages-before.result o.own c.stages.ensures.stages c.index-stages-before.is c.place_of-place.ensures o.at) c.in_ok-input.ensures.few
    (sym (c.in_ok-input.ensures.word o.own o.at) ∙ no_entry c.in_ok-input.field-0 c.in_default.not-Some)

pub shown_run-requires-clause-within : goal.shown_run-requires-clause-within
shown_run-requires-clause-within c = slice_get_within c.args.pipeline.now.stages (c.args.stage - 1) c.requires.orphan.own c.requires.orphan.at

pub shown_run-requires-clause-brings : goal.shown_run-requires-clause-brings
shown_run-requires-clause-brings c =
    let p = c.args.pipeline.now in
    let o = c.requires.orphan in
    let of_cell : IsPlaceOf p (c.args.stage - 1) c.args.cell o.own c.place_of-place.result = place-own c.args.pipeline.now c.stages.result.now (c.args.stage - 1) c.args.cell c.place_of-place.result c.index-stages-before.result o.own c.stages.ensures.stages c.index-stages-before.is c.place_of-place.ensures o.at in
    brings-least p (c.args.stage - 1) c.args.cell o.own c.place_of-place.result c.in-Some.input of_cell (sym (c.in_ok-input.ensures.word o.own o.at) ∙ c.in-Some.is)

pub returns-clause-explained : goal.returns-clause-explained
returns-clause-explained c =
    let p = c.args.pipeline.now in
    let o = c.requires.orphan in
    explained-at p (c.args.stage - 1) c.args.cell c.args.limit o.own c.place_of-place.result _ (place-own c.args.pipeline.now c.stages.result.now (c.args.stage - 1) c.args.cell c.place_of-place.result c.index-stages-before.result o.own c.stages.ensures.stages c.index-stages-before.is c.place_of-place.ensures o.at) c.in_ok-input.ensures.few
    (sym (c.in_ok-input.ensures.word o.own o.at) ∙ c.in-Some.is, subst (Loses p (reset p (c.in-Some.input ∷ [])) c.args.cell) (sym c.from_vec.ensures) c.in_ok-run.ensures)
