use Rattle.ncl_plans.proofs.Terms.{AddsOp, Choose, Differ, IfOk-weaker}
use Rattle.ncl_plans.proofs.AddedOps.{AddsOp-choose_by_pairs}
use Rattle.ncl_plans.proofs.adding.add_choose.Goals as goal

pub returns : goal.returns
returns c =
    let before = c.args.pool.now.smalls.items in
    let one = c.add_differ.new.pool.smalls.items in
    let two = c.add_and.new.pool.smalls.items in
    let after = c.add_differ-2.new.pool.smalls.items in
    let apart = c.in_ok-apart.apart in
    let change = c.in_ok-change.change in
    IfOk-weaker c.add_differ-2.result (AddsOp Differ c.args.second change c.args.second two after) (AddsOp Choose c.args.first c.args.second c.args.third before after)
    (λ signal last. AddsOp-choose_by_pairs c.args.first c.args.second c.args.third apart change signal before one two after c.in_ok-apart.ensures c.in_ok-change.ensures last)
    (c.add_differ-2.ensures c.args.second)
