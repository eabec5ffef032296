use Rattle.ncl_shape.proofs.Terms.{Some, YieldsList-end, YieldsList-from_vec, YieldsList-turn, ap, arith, get_or, length, length_push, rules, slice_get, subst, sym, ◌+◌, ◌∙◌, ◌≡◌}
use Rattle.ncl_shape.proofs.StageLists.{AreStagesBelow, bank_read, bank_at, next_follows, gates_at, as_many_lists, stages_more, stages_keep, stages_whole}
use Rattle.ncl_shape.proofs.staging.stages_between.Goals as goal

pub stage_between-requires-clause-bank : goal.stage_between-requires-clause-bank
stage_between-requires-clause-bank c =
    let n = c.args.netlist.now in
    let banks = c.args.banks.now in
    bank_at n banks c.requires.banks c.len-k.result c.index-banks-k.result (bank_read banks c.len-k.result c.index-banks-k.result (omega (arith, c.if-k-banks.true)) c.index-banks-k.is)

pub stage_between-requires-clause-next : goal.stage_between-requires-clause-next
stage_between-requires-clause-next c =
    let n = c.args.netlist.now in
    let banks = c.args.banks.now in
    bank_at n banks c.requires.banks (c.len-k.result + 1) c.index-banks-k-then-k-banks.result (bank_read banks (c.len-k.result + 1) c.index-banks-k-then-k-banks.result c.if-k-banks.true c.index-banks-k-then-k-banks.is)

pub stage_between-requires-clause-follows : goal.stage_between-requires-clause-follows
stage_between-requires-clause-follows c =
    let n = c.args.netlist.now in
    let banks = c.args.banks.now in
    next_follows n banks c.requires.path c.len-k.result c.index-banks-k.result c.index-banks-k-then-k-banks.result
    (bank_read banks c.len-k.result c.index-banks-k.result (omega (arith, c.if-k-banks.true)) c.index-banks-k.is)
    (bank_read banks (c.len-k.result + 1) c.index-banks-k-then-k-banks.result c.if-k-banks.true c.index-banks-k-then-k-banks.is)

pub stage_between-requires-clause-cells : goal.stage_between-requires-clause-cells
stage_between-requires-clause-cells c =
    let n = c.args.netlist.now in
    let banks = c.args.banks.now in
    let turn = YieldsList-turn (YieldsList-from_vec c.args.gates.items (search rules) (search rules)) c.loop-cells.yielded c.loop-cells.cells-iterator c.loop-cells.yielded_by c.next.result c.next.new.self c.in-Some.cells c.in-Some.is c.next.ensures.steps in
    let so_far = c.loop-cells.invariant in
    let count : c.len-k.result ≡ length c.loop-cells.stages.items = omega (arith, c.len-k.ensures, c.loop-cells.stages.ok.0) in
    let place : length c.loop-cells.yielded ≡ c.len-k.result = let same = so_far.whole (omega (arith, count, c.if-k-banks.true)) in omega (arith, same, count) in
    gates_at n banks c.args.gates.items c.requires.gates c.len-k.result c.index-banks-k.result c.in-Some.cells
    (bank_read banks c.len-k.result c.index-banks-k.result (omega (arith, c.if-k-banks.true)) c.index-banks-k.is)
    (omega (arith, turn.0, place)) (turn.1 ∙ ap (λ k. get_or c.args.gates.items k c.in-Some.cells) place)

pub loop-cells-preserved-in-Continue-branch-3 : goal.loop-cells-preserved-in-Continue-branch-3
loop-cells-preserved-in-Continue-branch-3 c =
    let n = c.args.netlist.now in
    let banks = c.args.banks.now in
    let count : c.len-k.result ≡ length c.loop-cells.stages.items = omega (arith, c.len-k.ensures, c.loop-cells.stages.ok.0) in
    let at = bank_read banks c.len-k.result c.index-banks-k.result (omega (arith, c.if-k-banks.true)) c.index-banks-k.is in
    let at_next = bank_read banks (c.len-k.result + 1) c.index-banks-k-then-k-banks.result c.if-k-banks.true c.index-banks-k-then-k-banks.is in
    subst (λ k. AreStagesBelow n banks k c.push.new.self.items) (sym (length_push c.loop-cells.yielded c.in-Some.cells))
    (subst (AreStagesBelow n banks (length c.loop-cells.yielded + 1)) (sym c.in_ok-push.ensures.items)
    (stages_more n banks c.loop-cells.stages.items c.in_ok-stage.stage (length c.loop-cells.yielded) c.index-banks-k.result c.index-banks-k-then-k-banks.result c.loop-cells.invariant
    (subst (λ k. slice_get banks k ≡ Some c.index-banks-k.result) count at) (subst (λ k. slice_get banks (k + 1) ≡ Some c.index-banks-k-then-k-banks.result) count at_next)
    (c.in_ok-stage.ensures.number ∙ ap (λ k. k + 1) count) c.in_ok-stage.ensures.stage))

pub loop-cells-preserved : goal.loop-cells-preserved
loop-cells-preserved c =
    let n = c.args.netlist.now in
    let banks = c.args.banks.now in
    let turn = YieldsList-turn (YieldsList-from_vec c.args.gates.items (search rules) (search rules)) c.loop-cells.yielded c.loop-cells.cells-iterator c.loop-cells.yielded_by c.next.result c.next.new.self c.in-Some.cells c.in-Some.is c.next.ensures.steps in
    let lists = as_many_lists n banks c.args.gates.items c.requires.gates in
    subst (λ k. AreStagesBelow n banks k c.loop-cells.stages.items) (sym (length_push c.loop-cells.yielded c.in-Some.cells))
    (stages_keep n banks c.loop-cells.stages.items (length c.loop-cells.yielded) c.loop-cells.invariant (omega (arith, turn.0, lists)) (omega (arith, c.len-k.ensures, c.loop-cells.stages.ok.0, c.if-k-banks.false)))

pub returns : goal.returns
returns c =
    let n = c.args.netlist.now in
    let banks = c.args.banks.now in
    let end = YieldsList-end (YieldsList-from_vec c.args.gates.items (search rules) (search rules)) c.loop-cells.yielded c.loop-cells.cells-iterator c.loop-cells.yielded_by c.next.result c.next.new.self c.in-None.is c.next.ensures.steps in
    let lists = as_many_lists n banks c.args.gates.items c.requires.gates in
    stages_whole n banks c.loop-cells.stages.items (length c.loop-cells.yielded) c.loop-cells.invariant (omega (arith, end.1, lists))

pub overflow_cast-number : goal.overflow_cast-number
overflow_cast-number c = omega (arith, c.if-k-banks.true, c.requires.few)

pub overflow_add-number : goal.overflow_add-number
overflow_add-number c = omega (arith, c.if-k-banks.true, c.requires.few)
