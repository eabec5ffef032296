use Rattle.ncl_sim.proofs.CalendarLaws.{calendar-more, heap_items, more-heaped, more-waits}
use Rattle.ncl_sim.proofs.calendar.Calendar.push.Goals as goal

pub invariant_of-self-then-has_list : goal.invariant_of-self-then-has_list
invariant_of-self-then-has_list c =
    calendar-more c.self.inside.opened.items c.self.inside.wheel (heap_items c.self.inside.others) c.self.invariant c.args.event c.put.new.self c.in_ok-put.ensures.time (c.has_list.ensures.0 c.if-has_list.true).0 c.in_ok-put.ensures.more

pub returns-then-has_list-clause-more : goal.returns-then-has_list-clause-more
returns-then-has_list-clause-more c = more-waits c.self.view_is c.args.event c.put.new.self.waiting c.in_ok-put.ensures.more

pub returns-clause-more : goal.returns-clause-more
returns-clause-more c = more-heaped c.self.view_is c.args.event (heap_items c.push_other.new.others) c.in_ok-push_other.ensures.more
