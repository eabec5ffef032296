use Rattle.ncl_sim.proofs.CalendarLaws.{Event, Global, IsNextList, IsPermutation, Vec, WheelData, [], ap, joined, list_at, opened-is, set, subst, tables, wheel-idle, wheel-later, wheel-none, ℕ, ◌%◌, ◌++◌, ◌+◌, ◌<◌, ◌∙◌, ◌≡◌}
use Rattle.ncl_sim.proofs.wheel.Wheel.open.Goals as goal

pub invariant_of-self : goal.invariant_of-self
invariant_of-self c =
    let time = c.self.inside.time in
    let idle = c.self.inside.idle in
    let lists = c.self.inside.lists.items in
    wheel-idle time idle (tables lists) c.self.invariant
    (wheel-none time idle (tables lists) c.self.invariant
    (subst (λ ls. (k : ℕ) → 0 < k → k < 64 → list_at (tables ls) ((time % 64 + k) % 64) ≡ []) c.as_slice.ensures.value c.in_default.ensures.none))

pub returns-in_default-clause-later : goal.returns-in_default-clause-later
returns-in_default-clause-later c = wheel-later c.self.inside.time c.self.inside.idle (tables c.self.inside.lists.items) c.self.invariant

pub returns-in_default-clause-all : goal.returns-in_default-clause-all
returns-in_default-clause-all c = λ empty.
    let time = c.self.inside.time in
    wheel-none time c.self.inside.idle (tables c.self.inside.lists.items) c.self.invariant
    (subst (λ ls. (k : ℕ) → 0 < k → k < 64 → list_at (tables ls) ((time % 64 + k) % 64) ≡ []) c.as_slice.ensures.value c.in_default.ensures.none)

pub invariant_of-self-2 : goal.invariant_of-self-2
invariant_of-self-2 c =
    let time = c.self.inside.time in
    let lists = c.self.inside.lists.items in
    let next : IsNextList time c.in-Some.ahead (tables lists) = subst (λ ls. IsNextList time c.in-Some.ahead (tables ls)) c.as_slice.ensures.value c.in-Some.ensures.next in
    let empty : c.swap.new.y.items ≡ [] = ap (λ (v : Vec Event Global). v.items) c.swap.ensures.y_after ∙ c.requires in
    (opened-is time c.self.inside.idle lists c.self.invariant c.in-Some.ahead next c.if-self.false c.index_mut.result.now c.swap.new.x c.swap.new.y c.index_mut.ensures.value c.swap.ensures.x_after empty c.index.result.now c.index.ensures).0

pub returns-clause-same : goal.returns-clause-same
returns-clause-same c =
    let time = c.self.inside.time in
    let lists = c.self.inside.lists.items in
    let next : IsNextList time c.in-Some.ahead (tables lists) = subst (λ ls. IsNextList time c.in-Some.ahead (tables ls)) c.as_slice.ensures.value c.in-Some.ensures.next in
    let empty : c.swap.new.y.items ≡ [] = ap (λ (v : Vec Event Global). v.items) c.swap.ensures.y_after ∙ c.requires in
    subst (λ w. IsPermutation w (c.swap.new.x.items ++ joined (tables (set lists ((time % 64 + c.in-Some.ahead) % 64) c.swap.new.y)))) (ap (λ (w : WheelData). w.waiting) c.self.view_is)
    (opened-is time c.self.inside.idle lists c.self.invariant c.in-Some.ahead next c.if-self.false c.index_mut.result.now c.swap.new.x c.swap.new.y c.index_mut.ensures.value c.swap.ensures.x_after empty c.index.result.now c.index.ensures).1

pub returns-clause-later : goal.returns-clause-later
returns-clause-later c =
    let lists = c.self.inside.lists.items in
    wheel-later c.index.result.now.0.0 c.self.inside.idle (tables (set lists ((c.self.inside.time % 64 + c.in-Some.ahead) % 64) c.swap.new.y)) (invariant_of-self-2 c)
