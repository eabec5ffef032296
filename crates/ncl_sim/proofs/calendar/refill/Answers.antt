use Rattle.ncl_sim.proofs.CalendarLaws.{All-permutation, IsDueAt, [], no-items, refill-all, refill-same, ◌≡◌}
use Rattle.ncl_sim.proofs.calendar.refill.Goals as goal

pub open-requires : goal.open-requires
open-requires c = no-items c.args.opened.now c.is_empty.result c.is_empty.ensures c.if-not-is_empty.false

pub returns : goal.returns
returns c =
    let empty : c.args.opened.now.items ≡ [] = no-items c.args.opened.now c.is_empty.result c.is_empty.ensures c.if-not-is_empty.false in
    record {
      same = refill-same c.args.opened.now.items c.open.new.opened.items c.sort_unstable.new.self.items c.args.wheel.now.waiting c.open.new.self.waiting empty c.open.ensures.same c.sort_unstable.ensures.permutation;
      sorted = c.sort_unstable.ensures.sorted;
      due = All-permutation (IsDueAt c.open.new.self.time) c.open.new.opened.items c.sort_unstable.new.self.items c.sort_unstable.ensures.permutation c.open.ensures.due;
      later = c.open.ensures.later;
      all = refill-all c.open.new.opened.items c.sort_unstable.new.self.items c.open.new.self.waiting c.open.ensures.all c.sort_unstable.ensures.permutation;
    }
