use Rattle.ncl_blif.proofs.Terms.{IsFirstCycle, ap, get_or, length, subst, sym, ◌<◌, ◌∙◌, ◌≡◌}
use Rattle.ncl_blif.proofs.NumberedLaws.{twins_differ}
use Rattle.ncl_blif.proofs.FinishLaws.{graph_is, none_cyclic, first_cyclic, cycle_within}
use Rattle.ncl_blif.proofs.finish.first_cycle.Goals as goal

pub bounds-covers-place : goal.bounds-covers-place
bounds-covers-place c =
    let is = graph_is c.args.draft.now _ c.args.numbered.now c.in_ok-dependencies.ensures c.requires.numbered in
    let found = rw c.in-Some.is at c.in_ok-place.ensures in
    subst (λ xs. c.in-Some.place < length xs) (sym c.covers-covers.ensures.covers) (cycle_within c.args.draft.now _ is c.in-Some.place found.0)

pub returns-in_default : goal.returns-in_default
returns-in_default c =
    let is = graph_is c.args.draft.now _ c.args.numbered.now c.in_ok-dependencies.ensures c.requires.numbered in
    none_cyclic c.args.draft.now (twins_differ _ c.covers-covers.ensures.one_driver) _ is (rw c.in_default.is at c.in_ok-place.ensures)

pub returns : goal.returns
returns c =
    let is = graph_is c.args.draft.now _ c.args.numbered.now c.in_ok-dependencies.ensures c.requires.numbered in
    let found = rw c.in-Some.is at c.in_ok-place.ensures in
    let cover = c.index-covers-place.result in
    let at : cover ≡ get_or c.args.draft.now.covers c.in-Some.place cover = c.index-covers-place.is ∙ ap (λ xs. get_or xs c.in-Some.place cover) c.covers-covers.ensures.covers in
    subst (IsFirstCycle c.args.draft.now) (sym c.line.ensures)
    (first_cyclic c.args.draft.now (twins_differ _ c.covers-covers.ensures.one_driver) _ is c.in-Some.place found.0 found.1 cover at)
