use Rattle.ncl_sim.proofs.CalendarLaws.{IsPermutation, [], all_events, ap, arith, event_cmp, heap-first, heap_items, less-heaped, no-items, no-length, none-old, none-whole, some-first, some-out, some-time, subst, sym, ◌++◌, ◌∙◌, ◌∷◌, ◌≡◌}
use Rattle.std.specs.BinaryHeap.{IsHeap}
use Rattle.ncl_sim.proofs.calendar.Calendar.pop.Goals as goal

pub returns-then-is_first-clause-rest : goal.returns-then-is_first-clause-rest
returns-then-is_first-clause-rest c =
    some-out c.self.view_is c.refill.new.opened.items c.refill.new.wheel.waiting c.refill.ensures.same
    c.pop.result c.pop.new.self.items c.pop.ensures.items

pub returns-then-is_first-clause-first : goal.returns-then-is_first-clause-first
returns-then-is_first-clause-first c =
    some-first c.self.view_is c.refill.new.opened.items c.refill.new.wheel.waiting c.refill.ensures.same
    c.pop.result c.pop.new.self.items c.pop.ensures.items c.refill.new.wheel.time c.refill.ensures.sorted c.refill.ensures.due c.refill.ensures.later
    c.as_slice.ensures.value (c.is_first.ensures.first c.if-is_first.true)

pub returns-then-is_first-clause-time : goal.returns-then-is_first-clause-time
returns-then-is_first-clause-time c =
    some-time c.pop.result c.refill.new.wheel.time c.refill.new.opened.items c.pop.new.self.items c.pop.ensures.items c.refill.ensures.due

pub returns-in_default-clause-none : goal.returns-in_default-clause-none
returns-in_default-clause-none c =
    none-old c.self.view_is c.refill.new.opened.items c.refill.new.wheel.waiting c.refill.ensures.same
    c.refill.ensures.all c.as_slice.ensures.value (c.is_first.ensures.other c.if-is_first.false)
    (no-length (heap_items c.self.inside.others) (omega (arith, c.in_default.ensures.none, c.self.inside.others.data.ok.0)))

pub returns-in_default-clause-left : goal.returns-in_default-clause-left
returns-in_default-clause-left c =
    ap (λ h. c.refill.new.opened.items ++ (c.refill.new.wheel.waiting ++ h)) c.in_default.ensures.unchanged.0
    ∙ none-whole c.self.view_is c.refill.new.opened.items c.refill.new.wheel.waiting c.refill.ensures.same
    c.refill.ensures.all c.as_slice.ensures.value (c.is_first.ensures.other c.if-is_first.false)
    (no-length (heap_items c.self.inside.others) (omega (arith, c.in_default.ensures.none, c.self.inside.others.data.ok.0)))

pub returns-then-not-is_empty-clause-rest : goal.returns-then-not-is_empty-clause-rest
returns-then-not-is_empty-clause-rest c =
    less-heaped c.self.view_is c.refill.new.opened.items c.refill.new.wheel.waiting c.refill.ensures.same
    c.in-Some.first (heap_items c.pop-2.new.self) c.in-Some.ensures.permutation

pub returns-then-not-is_empty-clause-first : goal.returns-then-not-is_empty-clause-first
returns-then-not-is_empty-clause-first c =
    heap-first c.self.view_is c.refill.new.opened.items c.refill.new.wheel.waiting c.refill.ensures.same
    c.refill.ensures.all c.as_slice.ensures.value (c.is_first.ensures.other c.if-is_first.false) c.refill.new.wheel.time c.in-Some.first
    (c.in-Some.ensures.heap_order c.self.invariant.in_order).1 c.refill.ensures.due c.refill.ensures.later

pub pass-requires : goal.pass-requires
pass-requires c =
    c.refill.ensures.all (no-items c.refill.new.opened c.is_empty.result c.is_empty.ensures c.if-not-is_empty.false)

pub returns-clause-rest : goal.returns-clause-rest
returns-clause-rest c =
    let none : c.refill.new.wheel.waiting ≡ [] = c.refill.ensures.all (no-items c.refill.new.opened c.is_empty.result c.is_empty.ensures c.if-not-is_empty.false) in
    subst (λ w. IsPermutation (all_events c.args.self.now) (c.in-Some.first ∷ (c.refill.new.opened.items ++ (w ++ heap_items c.pop-2.new.self)))) (none ∙ sym c.pass.ensures.waiting)
    (less-heaped c.self.view_is c.refill.new.opened.items c.refill.new.wheel.waiting c.refill.ensures.same
    c.in-Some.first (heap_items c.pop-2.new.self) c.in-Some.ensures.permutation)

pub returns-clause-first : goal.returns-clause-first
returns-clause-first c =
    heap-first c.self.view_is c.refill.new.opened.items c.refill.new.wheel.waiting c.refill.ensures.same
    c.refill.ensures.all c.as_slice.ensures.value (c.is_first.ensures.other c.if-is_first.false) c.refill.new.wheel.time c.in-Some.first
    (c.in-Some.ensures.heap_order c.self.invariant.in_order).1 c.refill.ensures.due c.refill.ensures.later

pub invariant_of-self-in_default : goal.invariant_of-self-in_default
invariant_of-self-in_default c = record {
  sorted = c.refill.ensures.sorted;
  due = c.refill.ensures.due;
  later = c.refill.ensures.later;
  in_order = subst (IsHeap event_cmp) (sym c.in_default.ensures.unchanged.0) c.self.invariant.in_order;
}

pub invariant_of-self-then-not-is_empty : goal.invariant_of-self-then-not-is_empty
invariant_of-self-then-not-is_empty c = record {
  sorted = c.refill.ensures.sorted;
  due = c.refill.ensures.due;
  later = c.refill.ensures.later;
  in_order = (c.in-Some.ensures.heap_order c.self.invariant.in_order).0;
}
