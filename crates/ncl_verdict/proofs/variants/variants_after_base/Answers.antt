use Rattle.ncl_verdict.proofs.Terms.{Bit, Cell, StageData, ap, below, length, map, map-map, sym, ℕ, ◌++◌, ◌∙◌, ◌≡◌}
use Rattle.ncl_verdict.proofs.variants.variants_after_base.Goals as goal

pub returns : goal.returns
returns c =
    let s : StageData = c.args.stage.now in
    let cells = c.in_ok-cells.cells.items in
    let inputs : c.items.result.now ≡ s.inputs = c.items.ensures ∙ ap (λ (t : StageData). t.inputs) c.stage.view_is in
    let bits : c.new-variants.result.items ++ map Bit (below (length c.items.result.now)) ≡ map Bit (below (length s.inputs)) =
    ap (λ items. items ++ map Bit (below (length c.items.result.now))) c.new-variants.ensures.items ∙ ap (λ xs. map Bit (below (length xs))) inputs in
    c.in_ok-push_cells.ensures
    ∙ (λ k. (c.in_ok-push_bits.ensures ∙ bits) k ++ map (λ (cell : ℕ × ℕ). Cell cell.1) (c.as_slice.ensures.value k))
    ∙ ap (λ items. map Bit (below (length s.inputs)) ++ items) (sym (map-map Cell (λ (cell : ℕ × ℕ). cell.1) cells) ∙ ap (map Cell) c.in_ok-cells.ensures)
