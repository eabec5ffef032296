use Rattle.ncl_merge.proofs.Terms.{IsJoint, JointData, List, NetId, [], added, ap, arith, drop, length, length-drop, length-take-le, nets_through, slice_get_within, subst, suc, sym, take, take_all, ℕ, ◌+◌, ◌-◌, ◌<◌, ◌∙◌, ◌≡◌, ◌≤◌}
use Rattle.ncl_merge.proofs.needed.nets_through.Goals as goal

pub returns-clause-nets : goal.returns-clause-nets
returns-clause-nets c =
    let inside = c.joint.inside in
    let ins = inside.reader.now.ins.items in
    let read = c.deref-3.result.now in
    let next : inside.pin + 1 ≡ suc inside.pin = omega arith in
    let count = length-drop (inside.pin + 1) read in
    let first : c.add_all.new.nets.items ≡ added [] (take inside.pin ins) = c.add_all.ensures.added ∙ (λ i. added (c.new-nets.ensures i) (take inside.pin (c.deref.ensures.0 i))) in
    let both : c.add_all-2.new.nets.items ≡ added (added [] (take inside.pin ins)) inside.driver.now.ins.items = c.add_all-2.ensures.added ∙ (λ i. added (first i) (c.deref-2.ensures.0 i)) in
    let later : take (length read - (inside.pin + 1)) (drop (inside.pin + 1) read) ≡ drop (suc inside.pin) ins = take_all _ (drop (inside.pin + 1) read) (omega (arith, count)) ∙ (λ i. drop (next i) (c.deref-3.ensures.0 i)) in
    c.add_all-3.ensures.added ∙ (λ i. added (both i) (later i)) ∙ ap nets_through c.joint.view_is

within : (joint inside : JointData) → inside ≡ joint → IsJoint joint → inside.pin < length inside.reader.ins.items
within joint inside same is =
    subst (λ (j : JointData). j.pin < length j.reader.ins.items) (sym same) (slice_get_within joint.reader.ins.items joint.pin joint.driver.out is.joined.on)

-- as many as stand before a place, and after it
before : (read ins : List NetId) (pin : ℕ) → read ≡ ins → pin < length ins → length (take pin read) ≡ pin
before read ins pin same lt = let count = ap length same in length-take-le pin read (omega (arith, count, lt))

past : (read ins : List NetId) (pin : ℕ) → read ≡ ins → pin < length ins → pin + 1 ≤ length read
past read ins pin same lt = let count = ap length same in omega (arith, count, lt)

after : (read : List NetId) (n : ℕ) → length (take (length read - n) (drop n read)) ≤ length read - n
after read n = let count = length-drop n read in let front = length-take-le (length read - n) (drop n read) (omega (arith, count)) in omega (arith, front)

three : (a b c d p read : ℕ) → a ≡ 0 → b ≤ a + p → c ≤ b + 4 → d ≤ read - (p + 1) → read ≤ 4 → p + 1 ≤ read → c + d ≤ 8
three a b c d p read none first second last few lt = omega (arith, none, first, second, last, few, lt)

pub slice_bounds-add_all-end : goal.slice_bounds-add_all-end
slice_bounds-add_all-end c = sym (before c.deref.result.now c.joint.inside.reader.now.ins.items c.joint.inside.pin c.deref.ensures.0 (within _ _ c.joint.view_is c.facts.ensures))

pub add_all-requires : goal.add_all-requires
add_all-requires c =
    let lt = within _ _ c.joint.view_is c.facts.ensures in
    let none : length c.new-nets.result.items ≡ 0 = ap length c.new-nets.ensures in
    let front = before c.deref.result.now c.joint.inside.reader.now.ins.items c.joint.inside.pin c.deref.ensures.0 lt in
    let count = ap length c.deref.ensures.0 in
    omega (arith, none, front, count, lt, c.deref.ensures.1)

pub add_all-requires-2 : goal.add_all-requires-2
add_all-requires-2 c =
    let lt = within _ _ c.joint.view_is c.facts.ensures in
    let none : length c.new-nets.result.items ≡ 0 = ap length c.new-nets.ensures in
    let front = before c.deref.result.now c.joint.inside.reader.now.ins.items c.joint.inside.pin c.deref.ensures.0 lt in
    let count = ap length c.deref.ensures.0 in
    omega (arith, none, front, count, lt, c.deref.ensures.1, c.deref-2.ensures.1, c.add_all.ensures.few)

pub slice_bounds-add_all-start : goal.slice_bounds-add_all-start
slice_bounds-add_all-start c = past c.deref-3.result.now c.joint.inside.reader.now.ins.items c.joint.inside.pin c.deref-3.ensures.0 (within _ _ c.joint.view_is c.facts.ensures)

pub slice_bounds-add_all-count : goal.slice_bounds-add_all-count
slice_bounds-add_all-count c = past c.deref-3.result.now c.joint.inside.reader.now.ins.items c.joint.inside.pin c.deref-3.ensures.0 (within _ _ c.joint.view_is c.facts.ensures)

pub slice_bounds-add_all-end-2 : goal.slice_bounds-add_all-end-2
slice_bounds-add_all-end-2 c = omega arith

pub add_all-requires-3 : goal.add_all-requires-3
add_all-requires-3 c =
    let lt = within _ _ c.joint.view_is c.facts.ensures in
    let none : length c.new-nets.result.items ≡ 0 = ap length c.new-nets.ensures in
    let front = before c.deref.result.now c.joint.inside.reader.now.ins.items c.joint.inside.pin c.deref.ensures.0 lt in
    three (length c.new-nets.result.items) (length c.add_all.new.nets.items) (length c.add_all-2.new.nets.items) _ c.joint.inside.pin (length c.deref-3.result.now) none (omega (arith, front, c.add_all.ensures.few)) (omega (arith, c.deref-2.ensures.1, c.add_all-2.ensures.few)) (after c.deref-3.result.now (c.joint.inside.pin + 1)) c.deref-3.ensures.1
    (past c.deref-3.result.now c.joint.inside.reader.now.ins.items c.joint.inside.pin c.deref-3.ensures.0 lt)

pub returns-clause-few : goal.returns-clause-few
returns-clause-few c =
    let lt = within _ _ c.joint.view_is c.facts.ensures in
    let none : length c.new-nets.result.items ≡ 0 = ap length c.new-nets.ensures in
    let front = before c.deref.result.now c.joint.inside.reader.now.ins.items c.joint.inside.pin c.deref.ensures.0 lt in
    let all = three (length c.new-nets.result.items) (length c.add_all.new.nets.items) (length c.add_all-2.new.nets.items) _ c.joint.inside.pin (length c.deref-3.result.now) none (omega (arith, front, c.add_all.ensures.few)) (omega (arith, c.deref-2.ensures.1, c.add_all-2.ensures.few)) (after c.deref-3.result.now (c.joint.inside.pin + 1)) c.deref-3.ensures.1
    (past c.deref-3.result.now c.joint.inside.reader.now.ins.items c.joint.inside.pin c.deref-3.ensures.0 lt) in
    omega (arith, all, c.add_all-3.ensures.few)

pub overflow_add-joint-inside : goal.overflow_add-joint-inside
overflow_add-joint-inside c =
    let lt = within _ _ c.joint.view_is c.facts.ensures in
    let count = ap length c.deref-3.ensures.0 in
    omega (arith, lt, count, c.deref-3.ensures.1)

pub offset_bounds-deref-joint-inside : goal.offset_bounds-deref-joint-inside
offset_bounds-deref-joint-inside c =
    let lt = within _ _ c.joint.view_is c.facts.ensures in
    let count = ap length c.deref-3.ensures.0 in
    omega (arith, lt, count, c.deref-3.ensures.1)
