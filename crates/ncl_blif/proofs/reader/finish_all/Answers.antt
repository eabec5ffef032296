use Rattle.ncl_blif.proofs.Terms.{All, All-more, IsFaultless, NamedModel, Some, YieldsList-end, YieldsList-from_vec, YieldsList-turn, ap, arith, err_from_is_err_and, get_or, inl, inr, length, length_push, map, numbered_model, rules, slice_get-get_or, subst, sym, take_all, ⊎_elim, ◌<◌, ◌^◌, ◌∙◌, ◌≡◌, ◌≤◌}
use Rattle.ncl_base.proofs.Growing.{map_push}
use Rattle.ncl_blif.proofs.reader.finish_all.Goals as goal
use Rattle.ncl_blif.proofs.reader.finish_all.Goals.{In-Some}

-- a draft that is given stands at its place
drawn : (c : In-Some) → (c.loop-draft.number < length c.args.drafts.items) × (c.in-Some.draft ≡ get_or c.args.drafts.items c.loop-draft.number c.in-Some.draft)
drawn c =
    let turn = YieldsList-turn (YieldsList-from_vec c.args.drafts.items (search rules) (search rules)) c.loop-draft.yielded c.loop-draft.draft-iterator c.loop-draft.yielded_by c.next.result c.next.new.self c.in-Some.draft c.in-Some.is c.next.ensures.steps in
    (omega (arith, turn.0, c.loop-draft.invariant.counted), turn.1 ∙ ap (λ n. get_or c.args.drafts.items n c.in-Some.draft) (sym c.loop-draft.invariant.counted))

pub overflow_add-number : goal.overflow_add-number
overflow_add-number c = omega (arith, (drawn c).0, c.requires.few)

pub finish-requires-clause-few_inputs : goal.finish-requires-clause-few_inputs
finish-requires-clause-few_inputs c =
    let (within, is) = drawn (goal.at.finish-requires-clause-few_inputs c).In-Some in
    subst (λ (draft : NamedModel). length draft.inputs < 2 ^ 32) (sym is) (c.requires.few_inputs c.loop-draft.number c.in-Some.draft within)

pub finish-requires-clause-few_covers : goal.finish-requires-clause-few_covers
finish-requires-clause-few_covers c =
    let (within, is) = drawn (goal.at.finish-requires-clause-few_covers c).In-Some in
    subst (λ (draft : NamedModel). length draft.covers < 2 ^ 32) (sym is) (c.requires.few_covers c.loop-draft.number c.in-Some.draft within)

pub returns-in_err-finish-clause-refused : goal.returns-in_err-finish-clause-refused
returns-in_err-finish-clause-refused c =
    let p = err_from_is_err_and c.from_residual.result c.from_residual.ensures.1 in
    let (within, is) = drawn (goal.at.returns-in_err-finish-clause-refused c).In-Some in
    let at = slice_get-get_or c.args.drafts.items c.loop-draft.number c.in-Some.draft within ∙ ap Some (sym is) in
    rw (p.1, p.2) (⊎_elim (λ none. inl none)
    (λ breaks. inr (record { place = c.loop-draft.number; broken = c.in-Some.draft; at = at; breaks = breaks; faultless_before = c.loop-draft.invariant.faultless }))
    c.in_err-finish.ensures.refused)

pub loop-draft-preserved : goal.loop-draft-preserved
loop-draft-preserved c =
    let drafts = c.args.drafts.items in
    let place = c.loop-draft.number in
    let draft = c.in-Some.draft in
    let (within, is) = drawn (goal.at.loop-draft-preserved c).In-Some in
    record {
      counted = let counted = c.loop-draft.invariant.counted in omega (arith, counted, length_push c.loop-draft.yielded draft);
      faultless = All-more IsFaultless drafts place draft within c.loop-draft.invariant.faultless (subst IsFaultless is c.in_ok-finish.ensures.read.0);
      read = map_push numbered_model drafts place draft _ _ _ within c.loop-draft.invariant.read
          (c.in_ok-finish.ensures.read.1 ∙ ap numbered_model is) c.in_ok-push.ensures.items;
    }

-- all drafts were gone through
all_done : (c : goal.After-drop-draft-iterator-2) → length c.args.drafts.items ≤ c.loop-draft.number
all_done c =
    let end = YieldsList-end (YieldsList-from_vec c.args.drafts.items (search rules) (search rules)) c.loop-draft.yielded c.loop-draft.draft-iterator c.loop-draft.yielded_by c.next.result c.next.new.self c.in-None.is c.next.ensures.steps in
    omega (arith, end.1, c.loop-draft.invariant.counted)

pub returns-clause-faultless : goal.returns-clause-faultless
returns-clause-faultless c =
    subst (All IsFaultless) (take_all c.loop-draft.number c.args.drafts.items (all_done c)) c.loop-draft.invariant.faultless

pub returns-clause-read : goal.returns-clause-read
returns-clause-read c =
    c.loop-draft.invariant.read ∙ ap (map numbered_model) (take_all c.loop-draft.number c.args.drafts.items (all_done c))
