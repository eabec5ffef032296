use Rattle.ncl_sim.proofs.CalendarLaws.{heap_items, opened-after}
use Rattle.ncl_sim.proofs.calendar.is_first.Goals as goal

pub returns-clause-other : goal.returns-clause-other
returns-clause-other c = λ off e all.
    opened-after c.args.opened.now (heap_items c.args.others.now) c.in-Some.last.now c.in-Some-peek.other.now c.requires.sorted c.in-Some.ensures.value c.in-Some-peek.ensures.lookup c.in-Some-peek.ensures.item.3.0 (c.is_before.ensures.after off) e all
