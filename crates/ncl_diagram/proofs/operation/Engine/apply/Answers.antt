use Rattle.ncl_diagram.proofs.Terms.{AddsKeys, Key, List, ap, arith, length, places, subst}
use Rattle.ncl_diagram.proofs.Counting.{few_keys, product_grown}
use Rattle.ncl_diagram.proofs.Growth.{there_grown}
use Rattle.ncl_diagram.proofs.RunLaws.{leaves_run, may_start, sound_left}
use Rattle.ncl_diagram.proofs.operation.Engine.apply.Goals as goal

pub apply_at-answer-requires : goal.apply_at-answer-requires
apply_at-answer-requires g c = may_start c.requires.width (sound_left c.requires.sound c.grow.ensures.floor c.grow.ensures.slots) c.requires.there c.empty.ensures.keys c.empty.ensures.found

pub returns-clause-leaves : goal.returns-clause-leaves
returns-clause-leaves g c = leaves_run c.apply_at-answer.result c.requires.sound.canonical c.requires.there c.apply_at-answer.ensures.runs c.apply_at-answer.ensures.finds c.apply_at-answer.ensures.full

pub returns-clause-steps : goal.returns-clause-steps
returns-clause-steps g c =
    let runs = c.apply_at-answer.ensures.runs in
    let added = subst (λ (keys : List Key). AddsKeys c.apply_at-answer.new.self.nodes keys c.apply_at-answer.new.self.memo.keys c.args.key) c.empty.ensures.keys runs.reached in
    let few = few_keys c.args.operation.width c.apply_at-answer.new.self.nodes c.args.key c.apply_at-answer.new.self.memo.keys runs.sound.canonical
    (there_grown c.args.self.now.nodes c.apply_at-answer.new.self.nodes runs.grown (places c.args.key) c.requires.there) c.empty-2.ensures.distinct added in
    let same = product_grown c.args.operation.width c.args.self.now.nodes c.apply_at-answer.new.self.nodes c.requires.sound.canonical runs.grown (places c.args.key) c.requires.there in
    let none = ap (λ (keys : List Key). length keys) c.empty.ensures.keys in
    let cost = c.apply_at-answer.ensures.steps in
    omega arith
