use Rattle.ncl_cells.proofs.Terms.{narrow_left, ◌∙◌}
use Rattle.ncl_cells.proofs.remaking.remake.Goals as goal

pub returns : goal.returns
returns c =
    let rebuilt = c.in_ok-rebuilt.ensures in
    let pruned = c.in_ok-pruned.ensures in
    record {
      narrow = narrow_left c.in_ok-rebuilt.rebuilt.nodes c.in_ok-pruned.pruned.nodes pruned.nodes rebuilt.narrow;
      ordered = pruned.ordered;
      reach = pruned.reach;
      inputs = pruned.inputs ∙ rebuilt.inputs;
      outputs = pruned.outputs ∙ rebuilt.outputs;
      same = λ word. pruned.same word ∙ rebuilt.same word;
    }
