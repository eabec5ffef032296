use Rattle.ncl_stage.proofs.Terms.{Bool, IsWalk, List, [], ap, arith, count_by, false, get_or, get_or_read, length, length-append, length-map, length-reverse, map, not, reverse, rules, set, subst, sym, true, turns, ℕ, ◌*◌, ◌++◌, ◌+◌, ◌-◌, ◌<◌, ◌∙◌, ◌∷◌, ◌≡◌, ◌≤◌}
use Rattle.ncl_stage.proofs.WalkLaws.{walk_begins, walk_ends, walk_at, walk_rail, cell_there, cell_within, turn_enters, turn_known, turns-enter}
use Rattle.ncl_stage.proofs.walk.Walk.from.Goals as goal

pub loop-next-init : goal.loop-next-init
loop-next-init c =
    let pins : List (List ℕ) = map (λ p. p.items) c.args.pins.now in
    let many : length pins ≡ length c.args.pins.now = length-map c.args.pins.now (λ p. p.items) in
    subst (λ items. IsWalk c.args.bits pins c.args.self.now.found.keys c.args.place c.args.self.now.entered.items (reverse items) c.args.self.now.found.keys)
    (sym (c.in_ok-push.ensures.items ∙ ap (λ l. l ++ c.args.place ∷ []) c.requires.idle))
    (walk_begins c.args.bits pins c.args.self.now.found.keys c.args.self.now.entered.items c.args.place (omega arith) c.requires.done)

pub loop-next-preserved-in_ok-insert : goal.loop-next-preserved-in_ok-insert
loop-next-preserved-in_ok-insert c =
    let pins : List (List ℕ) = map (λ p. p.items) c.args.pins.now in
    let walk = walk_at c.args.bits pins c.args.self.now.found.keys c.args.place c.loop-next.self.entered.items c.loop-next.self.found.keys c.loop-next.self.waiting.items c.pop.new.self.items c.in-Some.next c.in-Some.ensures.items c.loop-next.invariant in
    subst (λ found. IsWalk c.args.bits pins c.args.self.now.found.keys c.args.place c.loop-next.self.entered.items (reverse c.pop.new.self.items) found) (sym c.in_ok-insert.ensures.keys)
    (walk_rail c.args.bits pins c.args.self.now.found.keys c.loop-next.self.found.keys c.loop-next.self.entered.items c.args.place c.in-Some.next (reverse c.pop.new.self.items) c.if-next-bits.true walk)

pub index-requires : goal.index-requires
index-requires c =
    let within = (cell_there c.args.bits (map (λ p. p.items) c.args.pins.now) c.args.self.now.found.keys c.args.place c.loop-next.self.entered.items c.loop-next.self.found.keys c.loop-next.self.waiting.items c.pop.new.self.items c.in-Some.next c.in-Some.ensures.items c.loop-next.invariant c.if-next-bits.false).0 in
    search rules

pub index_mut-requires : goal.index_mut-requires
index_mut-requires c =
    let within = (cell_there c.args.bits (map (λ p. p.items) c.args.pins.now) c.args.self.now.found.keys c.args.place c.loop-next.self.entered.items c.loop-next.self.found.keys c.loop-next.self.waiting.items c.pop.new.self.items c.in-Some.next c.in-Some.ensures.items c.loop-next.invariant c.if-next-bits.false).0 in
    search rules

pub pins_of-ins-requires : goal.pins_of-ins-requires
pins_of-ins-requires c =
    subst (λ n. c.in-Some.next - 2 * c.args.bits < n) (length-map c.args.pins.now (λ p. p.items))
    (cell_there c.args.bits (map (λ p. p.items) c.args.pins.now) c.args.self.now.found.keys c.args.place c.loop-next.self.entered.items c.loop-next.self.found.keys c.loop-next.self.waiting.items c.pop.new.self.items c.in-Some.next c.in-Some.ensures.items c.loop-next.invariant c.if-next-bits.false).1

pub loop-next-smaller-in-Continue-branch-3 : goal.loop-next-smaller-in-Continue-branch-3
loop-next-smaller-in-Continue-branch-3 c =
    let pins : List (List ℕ) = map (λ p. p.items) c.args.pins.now in
    let entered : List Bool = c.loop-next.self.entered.items in
    let i : ℕ = c.in-Some.next - 2 * c.args.bits in
    let walk = walk_at c.args.bits pins c.args.self.now.found.keys c.args.place entered c.loop-next.self.found.keys c.loop-next.self.waiting.items c.pop.new.self.items c.in-Some.next c.in-Some.ensures.items c.loop-next.invariant in
    let within : i < length entered = (cell_within c.args.bits pins c.args.self.now.found.keys c.args.place entered c.loop-next.self.found.keys (reverse c.pop.new.self.items) c.in-Some.next c.if-next-bits.false walk).0 in
    let was : get_or entered i false ≡ false = sym (get_or_read entered i c.index.result.now within c.index.ensures false) ∙ c.if-not-index.true in
    let less : count_by not (set entered i true) + 1 ≡ count_by not entered = turns-enter entered i within was in
    let put : length c.put_all.new.waiting.items ≡ length c.pop.new.self.items + length c.pins_of-ins.result.now = ap length c.in_ok-put_all.ensures ∙ length-append c.pop.new.self.items (reverse c.pins_of-ins.result.now) ∙ ap (λ n. length c.pop.new.self.items + n) (length-reverse c.pins_of-ins.result.now) in
    let popped : length c.loop-next.self.waiting.items ≡ length c.pop.new.self.items + 1 = ap length c.in-Some.ensures.items ∙ length-append c.pop.new.self.items (c.in-Some.next ∷ []) in
    let few : length c.pins_of-ins.result.now ≤ 4 = c.pins_of-ins.ensures.few in
    let fewer : turns (set entered i true) c.put_all.new.waiting.items < turns entered c.loop-next.self.waiting.items = omega arith in
    fewer

pub loop-next-preserved-in-Continue-branch-3 : goal.loop-next-preserved-in-Continue-branch-3
loop-next-preserved-in-Continue-branch-3 c =
    let pins : List (List ℕ) = map (λ p. p.items) c.args.pins.now in
    let walk = walk_at c.args.bits pins c.args.self.now.found.keys c.args.place c.loop-next.self.entered.items c.loop-next.self.found.keys c.loop-next.self.waiting.items c.pop.new.self.items c.in-Some.next c.in-Some.ensures.items c.loop-next.invariant in
    turn_enters c.args.bits pins c.args.self.now.found.keys c.args.place c.loop-next.self.entered.items c.loop-next.self.found.keys c.pop.new.self.items c.put_all.new.waiting.items c.in-Some.next c.pins_of-ins.result.now c.requires.earlier c.if-next-bits.false c.pins_of-ins.ensures.pins c.in_ok-put_all.ensures walk

pub loop-next-preserved : goal.loop-next-preserved
loop-next-preserved c =
    let pins : List (List ℕ) = map (λ p. p.items) c.args.pins.now in
    let entered : List Bool = c.loop-next.self.entered.items in
    let i : ℕ = c.in-Some.next - 2 * c.args.bits in
    let walk = walk_at c.args.bits pins c.args.self.now.found.keys c.args.place c.loop-next.self.entered.items c.loop-next.self.found.keys c.loop-next.self.waiting.items c.pop.new.self.items c.in-Some.next c.in-Some.ensures.items c.loop-next.invariant in
    let within : i < length entered = (cell_within c.args.bits pins c.args.self.now.found.keys c.args.place entered c.loop-next.self.found.keys (reverse c.pop.new.self.items) c.in-Some.next c.if-next-bits.false walk).0 in
    let was : get_or entered i false ≡ true = sym (get_or_read entered i c.index.result.now within c.index.ensures false) ∙ c.if-not-index.false in
    turn_known c.args.bits pins c.args.self.now.found.keys c.args.place c.loop-next.self.entered.items c.loop-next.self.found.keys c.pop.new.self.items c.in-Some.next c.if-next-bits.false was walk

pub returns-clause-done : goal.returns-clause-done
returns-clause-done c =
    let pins : List (List ℕ) = map (λ p. p.items) c.args.pins.now in
    let idle : c.loop-next.self.waiting.items ≡ [] = search rules in
    (walk_ends c.args.bits pins c.args.self.now.found.keys c.loop-next.self.found.keys c.loop-next.self.entered.items c.args.place (subst (λ items. IsWalk c.args.bits pins c.args.self.now.found.keys c.args.place c.loop-next.self.entered.items (reverse items) c.loop-next.self.found.keys) idle c.loop-next.invariant)).0
