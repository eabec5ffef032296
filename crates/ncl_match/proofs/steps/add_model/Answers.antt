use Rattle.ncl_match.proofs.StepLaws.{All, AreAdded, Cover, IsOrder, IsSome, List, Model, Option, Step, added-more, added-whole, ap, dependency_graph, get, get_or, length, map, nat_cmp, outputs_known, subst, sym, take, take_all, take_more, turn_done, turn_few, turn_fresh, turn_known, turn_widths, turn_within, ℕ, ◌<◌, ◌∙◌, ◌≡◌, ◌≤◌}
use Rattle.ncl_match.proofs.steps.add_model.Goals as goal

-- the order as it is read, and the cover at a place of it
turn-read : (m : Model) (read order : List ℕ) (covers : List Cover) (i : ℕ) (cover : Cover) → read ≡ order → IsOrder (dependency_graph m.covers) order → covers ≡ m.covers → cover ≡ get_or covers (get_or read i 0) cover
    → IsOrder (dependency_graph m.covers) read × (cover ≡ get_or m.covers (get_or read i 0) cover)
turn-read m read order covers i cover same ordered are at =
    (subst (IsOrder (dependency_graph m.covers)) (sym same) ordered, at ∙ ap (λ covers. get_or covers (get_or read i 0) cover) are)

pub add_step-requires-clause-known : goal.add_step-requires-clause-known
add_step-requires-clause-known c =
    let order : List ℕ = c.deref-place-items.result.now in
    let cover : Cover = c.index-covers-place.result in
    let (ordered, at) = turn-read c.args.model.now order _ c.items-covers.result.now c.loop-place.place-index cover c.deref-place-items.ensures.value c.in_ok-order.ensures c.items-covers.ensures c.index-covers-place.is in
    turn_known c.args.inputs c.args.steps.now.items c.loop-place.steps.items c.args.model.now c.requires.model c.args.ins.now c.requires.ins (get nat_cmp c.loop-place.numbers) order ordered c.loop-place.place-index c.loop-place-test.true c.loop-place.invariant cover at

pub loop-place-preserved : goal.loop-place-preserved
loop-place-preserved c =
    let m : Model = c.args.model.now in
    let order : List ℕ = c.deref-place-items.result.now in
    let i : ℕ = c.loop-place.place-index in
    let cover : Cover = c.index-covers-place.result in
    let (ordered, at) = turn-read m order _ c.items-covers.result.now i cover c.deref-place-items.ensures.value c.in_ok-order.ensures c.items-covers.ensures c.index-covers-place.is in
    let n : ℕ = c.args.inputs in
    let old : List Step = c.args.steps.now.items in
    let steps : List Step = c.loop-place.steps.items in
    let number : ℕ → Option ℕ = get nat_cmp c.loop-place.numbers in
    let fresh = turn_fresh n old steps m c.requires.model c.args.ins.now c.requires.ins number order ordered i c.loop-place-test.true c.loop-place.invariant cover at in
    let widths = turn_widths n old steps m c.requires.model c.args.ins.now c.requires.ins number order ordered i c.loop-place-test.true c.loop-place.invariant cover at in
    subst (AreAdded n old c.add_step.new.steps.items m c.args.ins.now (get nat_cmp c.add_step.new.numbers)) (sym (take_more order i 0 c.loop-place-test.true))
    (added-more n old steps c.add_step.new.steps.items m c.args.ins.now number (get nat_cmp c.add_step.new.numbers) (take i order) (get_or order i 0) cover
    (turn_done m c.requires.model order ordered i c.loop-place-test.true cover at) c.in_ok-add_step.ensures.step c.in_ok-add_step.ensures.numbers fresh widths c.loop-place.invariant)

-- the order as it is read, and that all of it is added
whole-order : (n : ℕ) (old steps : List Step) (m : Model) (ins : List ℕ) (number : ℕ → Option ℕ) (read order : List ℕ) (i : ℕ) → read ≡ order → IsOrder (dependency_graph m.covers) order → length read ≤ i → AreAdded n old steps m ins number (take i read)
    → IsOrder (dependency_graph m.covers) read × AreAdded n old steps m ins number read
whole-order n old steps m ins number read order i same ordered past added =
    (subst (IsOrder (dependency_graph m.covers)) (sym same) ordered, subst (AreAdded n old steps m ins number) (take_all i read past) added)

pub look_up-requires : goal.look_up-requires
look_up-requires c =
    let number : ℕ → Option ℕ = get nat_cmp c.loop-place.numbers in
    let (ordered, all) = whole-order c.args.inputs c.args.steps.now.items c.loop-place.steps.items c.args.model.now c.args.ins.now number c.deref-place-items.result.now _ c.loop-place.place-index c.deref-place-items.ensures.value c.in_ok-order.ensures c.loop-place-test.false c.loop-place.invariant in
    subst (All (λ signal. IsSome (number signal))) (sym c.items.ensures)
    (outputs_known c.args.inputs c.args.steps.now.items c.loop-place.steps.items c.args.model.now c.requires.model c.args.ins.now c.requires.ins number _ ordered all)

pub returns : goal.returns
returns c =
    let number : ℕ → Option ℕ = get nat_cmp c.loop-place.numbers in
    let (ordered, all) = whole-order c.args.inputs c.args.steps.now.items c.loop-place.steps.items c.args.model.now c.args.ins.now number c.deref-place-items.result.now _ c.loop-place.place-index c.deref-place-items.ensures.value c.in_ok-order.ensures c.loop-place-test.false c.loop-place.invariant in
    added-whole c.args.inputs c.args.steps.now.items c.loop-place.steps.items c.args.model.now c.requires.model c.args.ins.now c.requires.ins number _ ordered all c.in_ok-outs.outs.items
    (c.in_ok-outs.ensures ∙ ap (map number) c.items.ensures)

pub add_step-requires-clause-few : goal.add_step-requires-clause-few
add_step-requires-clause-few c =
    let order : List ℕ = c.deref-place-items.result.now in
    let cover : Cover = c.index-covers-place.result in
    let (ordered, at) = turn-read c.args.model.now order _ c.items-covers.result.now c.loop-place.place-index cover c.deref-place-items.ensures.value c.in_ok-order.ensures c.items-covers.ensures c.index-covers-place.is in
    turn_few c.args.inputs c.args.steps.now.items c.loop-place.steps.items c.args.model.now c.requires.model c.args.ins.now c.requires.ins (get nat_cmp c.loop-place.numbers) order ordered c.loop-place.place-index c.loop-place-test.true c.loop-place.invariant cover at c.requires.few

pub bounds-covers-place : goal.bounds-covers-place
bounds-covers-place c =
    let m : Model = c.args.model.now in
    let order : List ℕ = c.deref-place-items.result.now in
    let ordered = subst (IsOrder (dependency_graph m.covers)) (sym c.deref-place-items.ensures.value) c.in_ok-order.ensures in
    subst (λ (covers : List Cover). get_or order c.loop-place.place-index 0 < length covers) (sym c.items-covers.ensures) (turn_within m c.requires.model order ordered c.loop-place.place-index c.loop-place-test.true)
