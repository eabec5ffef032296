use Rattle.ncl_shape.proofs.Terms.{AllZip, IsFewBitBank, YieldsList-end, YieldsList-from_vec, YieldsList-turn, ap, arith, get_or, length, length_push, requests_of, rules, subst, sym, take, take_all, ◌+◌, ◌∙◌, ◌≡◌}
use Rattle.ncl_shape.proofs.Assembling.{list_within, as_many_lists, made_bank}
use Rattle.ncl_shape.proofs.ZippedLists.{AllZip-more}
use Rattle.ncl_shape.proofs.finding.banks_of.Goals as goal

pub index-requires : goal.index-requires
index-requires c =
    let turn = YieldsList-turn (YieldsList-from_vec c.args.bits.items (search rules) (search rules)) c.loop-list.yielded c.loop-list.list-iterator c.loop-list.yielded_by c.next.result c.next.new.self c.in-Some.list c.in-Some.is c.next.ensures.steps in
    let within = list_within c.args.netlist.now c.args.chain.now c.requires.chain c.args.bits.items c.requires.bits (length c.loop-list.yielded) turn.0 in
    omega (arith, within.1, c.len-k.ensures, c.loop-list.banks.ok.0, c.loop-list.invariant.0, c.args.chain.now.banks.ok.0)

pub index-requires-in-loop-list : goal.index-requires-in-loop-list
index-requires-in-loop-list c =
    let turn = YieldsList-turn (YieldsList-from_vec c.args.bits.items (search rules) (search rules)) c.loop-list.yielded c.loop-list.list-iterator c.loop-list.yielded_by c.next.result c.next.new.self c.in-Some.list c.in-Some.is c.next.ensures.steps in
    let within = list_within c.args.netlist.now c.args.chain.now c.requires.chain c.args.bits.items c.requires.bits (length c.loop-list.yielded) turn.0 in
    omega (arith, within.2, c.len-k.ensures, c.loop-list.banks.ok.0, c.loop-list.invariant.0, c.args.chain.now.roots.ok.0)

pub loop-list-preserved : goal.loop-list-preserved
loop-list-preserved c =
    let n = c.args.netlist.now in
    let chain = c.args.chain.now in
    let k = length c.loop-list.yielded in
    let turn = YieldsList-turn (YieldsList-from_vec c.args.bits.items (search rules) (search rules)) c.loop-list.yielded c.loop-list.list-iterator c.loop-list.yielded_by c.next.result c.next.new.self c.in-Some.list c.in-Some.is c.next.ensures.steps in
    let within = list_within n chain c.requires.chain c.args.bits.items c.requires.bits k turn.0 in
    let place : c.len-k.result ≡ k = omega (arith, c.len-k.ensures, c.loop-list.banks.ok.0, c.loop-list.invariant.0) in
    let made = made_bank n chain c.requires.chain c.args.bits.items c.requires.bits k c.in-Some.list c.from_vec.result c.index.result.now c.index-in-loop-list.result.now turn.0 turn.1 c.from_vec.ensures
    (c.index.ensures ∙ ap (λ j. get_or chain.banks.items j c.index.result.now) place) (c.index-in-loop-list.ensures ∙ ap (λ j. get_or chain.roots.items j c.index-in-loop-list.result.now) place) in
    let grown : length c.push.new.self.items ≡ length c.loop-list.banks.items + 1 = ap length c.in_ok-push.ensures.items ∙ length_push c.loop-list.banks.items _ in
    let longer = length_push c.loop-list.yielded c.in-Some.list in (
      omega (arith, longer, c.loop-list.invariant.0, grown),
      subst (λ j. AllZip (IsFewBitBank n) (take j (requests_of chain)) c.push.new.self.items) (sym longer)
          (subst (AllZip (IsFewBitBank n) (take (k + 1) (requests_of chain))) (sym c.in_ok-push.ensures.items)
          (AllZip-more (IsFewBitBank n) (requests_of chain) c.loop-list.banks.items k 0 _ within.0 c.loop-list.invariant.1 made)),
    )

pub returns : goal.returns
returns c =
    let n = c.args.netlist.now in
    let chain = c.args.chain.now in
    let end = YieldsList-end (YieldsList-from_vec c.args.bits.items (search rules) (search rules)) c.loop-list.yielded c.loop-list.list-iterator c.loop-list.yielded_by c.next.result c.next.new.self c.in-None.is c.next.ensures.steps in
    let lists = as_many_lists n chain c.requires.chain c.args.bits.items c.requires.bits in
    subst (λ l. AllZip (IsFewBitBank n) l c.loop-list.banks.items) (take_all (length c.loop-list.yielded) (requests_of chain) (omega (arith, end.1, lists))) c.loop-list.invariant.1
