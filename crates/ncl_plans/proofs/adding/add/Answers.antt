use Rattle.ncl_plans.proofs.Terms.{AddsOp, Choose, IfOk, IfOk-weaker, Majority, subst, sym}
use Rattle.ncl_plans.proofs.AddedOps.{put_op, AddsOp-majority_by_pairs}
use Rattle.ncl_plans.proofs.adding.add.Goals as goal

pub returns-in-Some : goal.returns-in-Some
returns-in-Some c =
    let before = c.args.pool.now.smalls.items in
    let after = c.put.new.self.smalls.items in
    subst (λ op. IfOk c.put.result (AddsOp op c.args.first c.args.second c.args.third before after)) (sym c.in-Majority.is)
    (put_op Majority c.args.first c.args.second c.args.third c.in-Some.form before after c.put.result c.in-Some.ensures c.put.ensures)

pub returns-in_ok-apart-in-Majority : goal.returns-in_ok-apart-in-Majority
returns-in_ok-apart-in-Majority c =
    let before = c.args.pool.now.smalls.items in
    let one = c.add_differ-in-Majority.new.pool.smalls.items in
    let after = c.add_choose.new.pool.smalls.items in
    let apart = c.in_ok-apart-in-Majority.apart in
    subst (λ op. IfOk c.add_choose.result (AddsOp op c.args.first c.args.second c.args.third before after)) (sym c.in-Majority.is)
    (IfOk-weaker c.add_choose.result (AddsOp Choose apart c.args.first c.args.third one after) (AddsOp Majority c.args.first c.args.second c.args.third before after)
    (λ signal last. AddsOp-majority_by_pairs c.args.first c.args.second c.args.third apart signal before one after c.in_ok-apart-in-Majority.ensures last)
    c.add_choose.ensures)

pub returns-in-Some-choose : goal.returns-in-Some-choose
returns-in-Some-choose c =
    let before = c.args.pool.now.smalls.items in
    let after = c.put-in-Some-choose.new.self.smalls.items in
    subst (λ op. IfOk c.put-in-Some-choose.result (AddsOp op c.args.first c.args.second c.args.third before after)) (sym c.in-Choose.is)
    (put_op Choose c.args.first c.args.second c.args.third c.in-Some-choose.form before after c.put-in-Some-choose.result c.in-Some-choose.ensures c.put-in-Some-choose.ensures)
