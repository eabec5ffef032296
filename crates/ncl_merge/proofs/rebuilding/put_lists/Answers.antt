use Rattle.ncl_merge.proofs.Choices.{All, DriveOnce, HaveGates, StageCell, all_of, ap, arith, get_or, length, subst, sym, take, take_all, ◌++◌, ◌<◌, ◌∙◌, ◌≡◌, all_of-at, all_of-more, once-more}
use Rattle.ncl_merge.proofs.rebuilding.put_lists.Goals as goal

pub put_gates-requires : goal.put_gates-requires
put_gates-requires c = λ i d lt.
    let lists = c.args.lists.now in
    let k = c.loop-cells.cells-index in
    let list = c.cells-item.result in
    let inside = all_of-at (λ (g : StageCell). g.out.0 < length c.args.gates.now) lists k list c.loop-cells-test.true c.requires.inside in
    let own = subst (All (λ (g : StageCell). g.out.0 < length c.args.gates.now)) (sym (c.items.ensures ∙ c.cells-item.is)) inside i d lt in
    let long = c.loop-cells.auto.gates in
    omega (arith, own, long)

pub loop-cells-preserved : goal.loop-cells-preserved
loop-cells-preserved c =
    let lists = c.args.lists.now in
    let k = c.loop-cells.cells-index in
    let list = c.cells-item.result in
    let is : c.items.result.now ≡ get_or lists k list = c.items.ensures ∙ c.cells-item.is in
    let before = all_of (take k lists) in
    let once = subst (λ xs. DriveOnce (all_of (take k lists) ++ xs)) (sym is) (once-more lists k list c.loop-cells-test.true c.requires.once) in
    subst (HaveGates c.put_gates.new.gates) (sym (all_of-more lists k list c.loop-cells-test.true ∙ ap (λ xs. all_of (take k lists) ++ xs) (sym is)))
    (c.in_ok-put_gates.ensures (all_of (take k lists)) c.loop-cells.invariant once)

pub returns : goal.returns
returns c = subst (λ xs. HaveGates c.loop-cells.gates (all_of xs)) (take_all c.loop-cells.cells-index c.args.lists.now c.loop-cells-test.false) c.loop-cells.invariant
