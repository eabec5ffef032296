use Rattle.std.proofs.Common.{◌≡◌, ◌+◌, ◌-◌, take, drop, length, refl, ap, ◌∙◌, arith}
use Rattle.std.proofs.lemmas.Grind.{common_steps}
use Rattle.ncl_shape.specs.declared.stage.StageCell.{StageCell}
use Rattle.ncl_tree.proofs.Queue.{IsGrowing-start, IsGrowing-more, AddsTree-grown}
use Rattle.ncl_tree.proofs.tree.add_tree.Goals as goal

pub loop-at-init : goal.loop-at-init
loop-at-init c = record {
  growing = rw c.in_ok-queue.ensures.items (IsGrowing-start c.args.family c.args.leaves.now c.args.gates.now.cells c.requires.some);
  first = refl;
}

pub loop-at-preserved : goal.loop-at-preserved
loop-at-preserved c =
    let gate : StageCell = record {
      cell = record { 0 = length c.loop-at.gates.cells };
      kind = c.kind_of-kind.result;
      ins = c.inputs_of-ins.result;
      out = c.in_ok-out.out;
    } in
    let count : (c.loop-at.at + c.loop-at.taken) - c.loop-at.at ≡ c.loop-at.taken = omega arith in
    let ins : gate.ins.items ≡ take c.loop-at.taken (drop c.loop-at.at c.loop-at.queue.items) =
    c.inputs_of-ins.ensures ∙ (λ i. take (count i) (drop c.loop-at.at (c.deref.ensures.value i))) in
    record {
      growing = IsGrowing-more c.args.family c.args.leaves.now c.args.gates.now.cells c.loop-at.gates.cells c.loop-at.queue.items c.loop-at.at c.loop-at.taken c.loop-at.invariant.growing
          gate c.add.new.self.cells c.push.new.self.items (omega arith) (record { kind = c.kind_of-kind.ensures.family; arity = ap length c.inputs_of-ins.ensures ∙ grind (arith, common_steps) }) ins (ap (λ gates. gates.cells) c.in_ok-out.ensures.added) c.in_ok-push.ensures.items;
      first = ap (λ gates. gates.first) c.in_ok-out.ensures.added ∙ c.loop-at.invariant.first;
    }

pub returns-clause-tree : goal.returns-clause-tree
returns-clause-tree c =
    AddsTree-grown c.args.family c.args.leaves.now c.args.gates.now.cells c.loop-at.gates.cells c.loop-at.queue.items c.loop-at.at c.loop-at.taken c.loop-at.invariant.growing c.index.result.now (omega arith) c.index.ensures
