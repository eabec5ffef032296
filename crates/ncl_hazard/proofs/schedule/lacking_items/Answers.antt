use Rattle.ncl_hazard.proofs.Terms.{Bank, Bit, CellId, List, ap, arith, drop, fires, gates_of, is_cell, length, length-drop, place_read, reaching, registers_of, sym, take, take_all, ℕ, ◌++◌, ◌+◌, ◌-◌, ◌∙◌, ◌≡◌}
use Rattle.ncl_hazard.proofs.ScheduleLaws.{lacking-is}
use Rattle.ncl_hazard.proofs.schedule.lacking_items.Goals as goal

-- from a place to the end
from_end : (n : ℕ) (xs : List Bit) → take (length xs - n) (drop n xs) ≡ drop n xs
from_end n xs = let long = length-drop n xs in take_all (length xs - n) (drop n xs) (omega (arith, long))

pub returns : goal.returns
returns c =
    let p = c.args.pipeline.now in
    let before = c.args.before in
    let bit = c.args.bit in
    let b : Bank = c.index-banks-before.result in
    let next : Bank = c.index-banks-before-2.result in
    let within = c.requires.before in
    let count = c.facts.ensures.stages in
    let bits : c.items-bits.result.now ≡ b.bits = c.items-bits.ensures ∙ ap (λ (x : Bank). x.bits) (sym c.index-banks-before.is) in
    let none = c.no_cell-none.ensures in
    lacking-is p before bit b next c.index-stages-before.result c.in_ok-items.items.items c.push_registers.new.items.items c.push_registers-2.new.items.items c.push_gates.new.items.items c.push_registers-3.new.items.items
    (place_read p.banks c.banks.result.now before b c.banks.ensures.banks c.index-banks-before.is (omega (arith, within, count)))
    (place_read p.stages c.stages.result.now before c.index-stages-before.result c.stages.ensures.stages c.index-stages-before.is within)
    (place_read p.banks c.banks-2.result.now (before + 1) next c.banks-2.ensures.banks c.index-banks-before-2.is (omega (arith, within, count)))
    (c.in_ok-items.ensures ∙ ap (reaching p before) none)
    (c.in_ok-push_registers.ensures ∙ ap (λ (xs : List Bit). c.in_ok-items.items.items ++ fires (registers_of (take bit xs))) bits)
    (c.in_ok-push_registers-2.ensures ∙ ap (λ (xs : List Bit). c.push_registers.new.items.items ++ fires (registers_of xs)) (from_end (bit + 1) c.items-bits.result.now)
    ∙ ap (λ (xs : List Bit). c.push_registers.new.items.items ++ fires (registers_of (drop (bit + 1) xs))) bits)
    (c.in_ok-push_gates.ensures ∙ ap (λ (cell : CellId). c.push_registers-2.new.items.items ++ fires (gates_of (is_cell cell) c.index-stages-before.result.cells)) none)
    (c.in_ok-push_registers-3.ensures ∙ ap (λ (xs : List Bit). c.push_gates.new.items.items ++ fires (registers_of xs)) (c.items.ensures ∙ ap (λ (x : Bank). x.bits) (sym c.index-banks-before-2.is)))
