use Rattle.ncl_sim.proofs.CalendarLaws.{IsPermutation, MatchResult-from_err, WheelData, [], ap, arith, joined, joined-put, length, length-tables, set, set-get_or, subst, sym, table-at, tables, tables-set, wheel-put, wheel-same, ◌%◌, ◌++◌, ◌<◌, ◌∙◌, ◌∷◌}
use Rattle.ncl_sim.proofs.wheel.Wheel.put.Goals as goal

pub invariant_of-self : goal.invariant_of-self
invariant_of-self c =
    let lists = c.self.inside.lists.items in
    let within : c.args.event.0.0 % 64 < length lists = omega (arith, c.self.invariant.size, length-tables lists) in
    let was = table-at lists (c.args.event.0.0 % 64) c.index_mut.result.now within c.index_mut.ensures.value in
    wheel-same c.self.inside.time c.self.inside.idle (tables lists) c.self.invariant (tables (set lists (c.args.event.0.0 % 64) c.append.new.list))
    (tables-set lists (c.args.event.0.0 % 64) c.append.new.list _ (c.in_err-append.ensures.unchanged ∙ was) ∙ set-get_or (tables lists) (c.args.event.0.0 % 64) [])

pub returns-in_err-append-clause-unchanged : goal.returns-in_err-append-clause-unchanged
returns-in_err-append-clause-unchanged c =
    let lists = c.self.inside.lists.items in
    let within : c.args.event.0.0 % 64 < length lists = omega (arith, c.self.invariant.size, length-tables lists) in
    let was = table-at lists (c.args.event.0.0 % 64) c.index_mut.result.now within c.index_mut.ensures.value in
    let same = tables-set lists (c.args.event.0.0 % 64) c.append.new.list _ (c.in_err-append.ensures.unchanged ∙ was) ∙ set-get_or (tables lists) (c.args.event.0.0 % 64) [] in
    MatchResult-from_err _ _ _ c.from_residual.ensures.0 (λ _. ap joined same ∙ ap (λ (w : WheelData). w.waiting) c.self.view_is)

pub invariant_of-self-2 : goal.invariant_of-self-2
invariant_of-self-2 c =
    let lists = c.self.inside.lists.items in
    let within : c.args.event.0.0 % 64 < length lists = omega (arith, c.self.invariant.size, length-tables lists) in
    let was = table-at lists (c.args.event.0.0 % 64) c.index_mut.result.now within c.index_mut.ensures.value in
    let time = ap (λ (w : WheelData). w.time) c.self.view_is in
    wheel-put c.self.inside.time c.self.inside.idle (tables lists) c.self.invariant (c.args.event.0.0 % 64) c.args.event (tables (set lists (c.args.event.0.0 % 64) c.append.new.list)) (λ i. c.args.event.0.0 % 64)
    (omega (arith, c.requires.0, time)) (omega (arith, c.requires.1, time))
    (tables-set lists (c.args.event.0.0 % 64) c.append.new.list _ (c.in_ok-append.ensures.more ∙ ap (λ l. l ++ c.args.event ∷ []) was))

pub returns-clause-more : goal.returns-clause-more
returns-clause-more c =
    let lists = c.self.inside.lists.items in
    let within : c.args.event.0.0 % 64 < length lists = omega (arith, c.self.invariant.size, length-tables lists) in
    let was = table-at lists (c.args.event.0.0 % 64) c.index_mut.result.now within c.index_mut.ensures.value in
    let put = tables-set lists (c.args.event.0.0 % 64) c.append.new.list _ (c.in_ok-append.ensures.more ∙ ap (λ l. l ++ c.args.event ∷ []) was) in
    subst (λ w. IsPermutation (c.args.event ∷ w) (joined (tables (set lists (c.args.event.0.0 % 64) c.append.new.list)))) (ap (λ (w : WheelData). w.waiting) c.self.view_is)
    (subst (λ ls. IsPermutation (c.args.event ∷ joined (tables lists)) (joined ls)) (sym put) (joined-put (tables lists) (c.args.event.0.0 % 64) c.args.event (omega (arith, c.self.invariant.size))))
