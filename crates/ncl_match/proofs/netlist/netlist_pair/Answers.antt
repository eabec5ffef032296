use Rattle.ncl_match.proofs.PlanLaws.{AreMarks, AreMarksFor, Bool, DataCell, IsOrdered, List, NetlistData, PipelineData, Rails, ap, get_or, laid_out_of, length, no_rails, output-within, plan-ordered, plan_of, slice_get-get_or, subst, sym, ℕ, ◌<◌, ◌∙◌, ◌≡◌}
use Rattle.ncl_match.proofs.netlist.netlist_pair.Goals as goal

-- marks of what is made are those of the plan
marks-for : (p : PipelineData) (output : ℕ) (cells : List DataCell) (nets : ℕ) (outputs : List Rails) (made marks : List Bool) → output < length p.outputs → cells ≡ plan_of p → length p.netlist.nets ≡ nets → outputs ≡ p.outputs → marks ≡ made
    → AreMarks cells nets (get_or outputs output no_rails).one.0 made 0 → AreMarksFor p output marks
marks-for p output cells nets outputs made marks lt cells_are many same marks_are are = record {
  rails = get_or p.outputs output no_rails;
  at = slice_get-get_or p.outputs output no_rails lt;
  are = subst (λ ms. AreMarks (plan_of p) (length p.netlist.nets) (get_or p.outputs output no_rails).one.0 ms 0) (sym marks_are)
      (subst (λ n. AreMarks (plan_of p) n (get_or p.outputs output no_rails).one.0 made 0) (sym many)
      (subst (λ (xs : List Rails). AreMarks (plan_of p) nets (get_or xs output no_rails).one.0 made 0) same
      (subst (λ es. AreMarks es nets (get_or outputs output no_rails).one.0 made 0) cells_are are)));
}

pub marked_nets-requires-clause-ordered : goal.marked_nets-requires-clause-ordered
marked_nets-requires-clause-ordered g c =
    let p : PipelineData = c.pipeline-pipeline.result.now in
    let (l, is) = laid_out_of p.netlist p c.outputs.ensures.shape in
    let many : length p.netlist.nets ≡ length c.nets-nets.result.now = ap length (sym (c.nets-nets.ensures.nets ∙ ap (λ (n : NetlistData). n.nets) c.netlist.ensures.netlist)) in
    subst (λ cells. IsOrdered cells (length c.nets-nets.result.now)) (sym (c.cells.ensures ∙ ap plan_of (sym c.pipeline-pipeline.ensures))) (subst (IsOrdered (plan_of p)) many (plan-ordered is))

pub marked_nets-requires-clause-root : goal.marked_nets-requires-clause-root
marked_nets-requires-clause-root g c =
    let p : PipelineData = c.pipeline-pipeline.result.now in
    let (l, is) = laid_out_of p.netlist p c.outputs.ensures.shape in
    let many : length p.netlist.nets ≡ length c.nets-nets.result.now = ap length (sym (c.nets-nets.ensures.nets ∙ ap (λ (n : NetlistData). n.nets) c.netlist.ensures.netlist)) in
    let lt : c.args.output < length p.outputs = subst (λ (q : PipelineData). c.args.output < length q.outputs) (sym c.pipeline-pipeline.ensures) c.requires.output in
    let within = output-within is c.args.output (get_or p.outputs c.args.output no_rails) (slice_get-get_or p.outputs c.args.output no_rails lt) in
    subst (λ (xs : List Rails). (get_or xs c.args.output no_rails).one.0 < length c.nets-nets.result.now) (sym c.outputs.ensures.outputs) (subst (λ n. (get_or p.outputs c.args.output no_rails).one.0 < n) many within)

pub filled_pair-requires-clause-marks : goal.filled_pair-requires-clause-marks
filled_pair-requires-clause-marks g c =
    let p : PipelineData = c.pipeline-pipeline.result.now in
    let many : length p.netlist.nets ≡ length c.nets-nets.result.now = ap length (sym (c.nets-nets.ensures.nets ∙ ap (λ (n : NetlistData). n.nets) c.netlist.ensures.netlist)) in
    let lt : c.args.output < length p.outputs = subst (λ (q : PipelineData). c.args.output < length q.outputs) (sym c.pipeline-pipeline.ensures) c.requires.output in
    subst (λ q. AreMarksFor q c.args.output c.deref.result.now) c.pipeline-pipeline.ensures
    (marks-for p c.args.output c.cells.result.now (length c.nets-nets.result.now) c.outputs.result.now c.in_ok-marks.marks.items c.deref.result.now lt (c.cells.ensures ∙ ap plan_of (sym c.pipeline-pipeline.ensures)) many c.outputs.ensures.outputs c.deref.ensures.value c.in_ok-marks.ensures)
