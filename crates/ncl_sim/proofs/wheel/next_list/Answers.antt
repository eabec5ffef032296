use Rattle.ncl_sim.proofs.CalendarLaws.{[], arith, below_more, eqb-true, length, list_at, no-length, sym, table-at, tables, ◌%◌, ◌+◌, ◌<◌, ◌∙◌, ◌≡◌}
use Rattle.ncl_sim.proofs.wheel.next_list.Goals as goal

pub loop-ahead-preserved : goal.loop-ahead-preserved
loop-ahead-preserved c =
    let lists = c.args.lists.now in
    let v = c.index-lists-own.result in
    let within : (c.args.time % 64 + c.loop-ahead.ahead) % 64 < length lists = omega (arith, c.requires) in
    let none : v.len ≡ 0 = eqb-true v.len 0 (sym c.is_empty.ensures ∙ c.if-not-is_empty.false) in
    let here : list_at (tables lists) ((c.args.time % 64 + c.loop-ahead.ahead) % 64) ≡ [] =
    sym (table-at lists ((c.args.time % 64 + c.loop-ahead.ahead) % 64) v within c.index-lists-own.is) ∙ no-length v.items (omega (arith, none, v.ok.0)) in
    below_more (λ k. 0 < k → list_at (tables lists) ((c.args.time % 64 + k) % 64) ≡ []) c.loop-ahead.ahead c.loop-ahead.invariant (λ some. here)
