use Rattle.ncl_graph.proofs.Terms.{Open, [], arith, get_or, length, length_push, ◌++◌, ◌<◌, ◌∷◌}
use Rattle.ncl_graph.proofs.Searching.{last_inside, step_closes, step_opens, step_fewer, step_cycle, no_more_new, StaysMet-set}
use Rattle.ncl_graph.proofs.search.Search.step.Goals as goal

pub close-requires : goal.close-requires
close-requires c = last_inside _ _ _ _ _ _ c.requires

pub returns-then-next-successors-clause-search : goal.returns-then-next-successors-clause-search
returns-then-next-successors-clause-search c =
    rw (c.in_ok-close.ensures.marks, c.in_ok-close.ensures.passed, c.in_ok-close.ensures.path, c.in_ok-close.ensures.order)
    (step_closes _ c.successors-successors.ensures.graph _ _ _ _ _ _ _ _ _ c.requires c.as_slice.ensures.value c.successors-successors.ensures.successors c.index.ensures c.first_undone-next.ensures.done c.if-next-successors.true)

pub returns-then-next-successors-clause-nearer : goal.returns-then-next-successors-clause-nearer
returns-then-next-successors-clause-nearer c =
    let inside : c.args.place < length c.args.self.now.marks.items = last_inside _ _ _ _ _ _ c.requires in
    rw (c.in_ok-close.ensures.marks, c.in_ok-close.ensures.path) (omega (arith, no_more_new c.args.self.now.marks.items c.args.place inside))

pub returns-in-Open-clause-cycle : goal.returns-in-Open-clause-cycle
returns-in-Open-clause-cycle c = (_, step_cycle _ c.successors-successors.ensures.graph _ _ _ _ _ _ _ _ _ c.requires c.as_slice.ensures.value c.successors-successors.ensures.successors c.index.ensures c.first_undone-next.ensures.done c.first_undone-next.ensures.within c.if-next-successors.false c.index-2.result.now c.index-2.ensures c.in-Open.is)

pub returns-clause-search : goal.returns-clause-search
returns-clause-search c =
    rw (c.in_ok-open.ensures.marks, c.in_ok-open.ensures.passed, c.in_ok-open.ensures.path, c.in_ok-open.ensures.order, c.in_ok-push.ensures.items)
    (step_opens _ c.successors-successors.ensures.graph _ _ _ _ _ _ _ _ _ c.requires c.as_slice.ensures.value c.successors-successors.ensures.successors c.index.ensures c.first_undone-next.ensures.done c.first_undone-next.ensures.within c.if-next-successors.false c.index-2.result.now c.index-2.ensures c.in_default.not-Open c.first_undone-next.ensures.undone)

pub returns-clause-met : goal.returns-clause-met
returns-clause-met c = rw c.in_ok-open.ensures.marks (StaysMet-set _ _ Open (λ e. cc))

pub returns-clause-nearer : goal.returns-clause-nearer
returns-clause-nearer c =
    let fewer = step_fewer _ c.successors-successors.ensures.graph _ _ _ _ _ _ _ _ _ c.requires c.as_slice.ensures.value c.successors-successors.ensures.successors c.index.ensures c.first_undone-next.ensures.done c.first_undone-next.ensures.within c.if-next-successors.false c.index-2.result.now c.index-2.ensures c.in_default.not-Open c.first_undone-next.ensures.undone in
    rw (c.in_ok-open.ensures.marks, c.in_ok-open.ensures.path, c.in_ok-push.ensures.items)
    (omega (arith, fewer, length_push (c.args.self.now.path.items ++ c.args.place ∷ []) (get_or c.successors-successors.result.now c.first_undone-next.result 0), length_push c.args.self.now.path.items c.args.place))
