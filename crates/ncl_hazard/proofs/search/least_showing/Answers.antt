use Rattle.ncl_hazard.proofs.Terms.{Err, IfOk-weaker, List, Orphan, SpaceData, StageData, ap, ascending, diagram_space, false, fits, handed_on, least_word_by, length, made_count, range_with_len, subst, tables_by, true, ℕ, ◌∙◌, ◌≡◌, ◌≤◌}
use Rattle.ncl_faults.specs.declared.variant.Variant.TheVariants.{Cell}
use Rattle.ncl_hazard.proofs.SearchLaws.{nets_over, all_over, all_few, OnOk-more}
use Rattle.ncl_hazard.proofs.search.least_showing.Goals as goal

pub returns-in_err-base-clause-full : goal.returns-in_err-base-clause-full
returns-in_err-base-clause-full c = λ e.
    let s : StageData = c.args.stage.now in
    let a : SpaceData = diagram_space c.new-space.result in
    let long : length c.items-bits.result.now ≡ length s.inputs = ap length (c.items-bits.ensures ∙ ap (λ (t : StageData). t.inputs) c.stage.view_is) in
    let width : a.width ≡ length s.inputs = c.new-space.ensures.width ∙ long in
    let order : List ℕ = c.in_ok-order.order in
    let ordered : order ≡ ascending s = c.in_ok-order.ensures.bits ∙ ap (range_with_len 0) long in
    nets_over a s (Cell c.args.cell) c.args.limit width c.new-space.ensures.limit c.new-space.ensures.new order ordered
    (c.in_err-base.ensures.full (ap Err (handed_on c.from_residual-in_err-base.result c.in_err-base.field-0.0 c.from_residual-in_err-base.ensures.1 e)))

pub returns : goal.returns
returns c =
    let s : StageData = c.args.stage.now in
    let a : SpaceData = diagram_space c.new-space.result in
    let b : SpaceData = diagram_space c.values_in.new.space in
    let long : length c.items-bits.result.now ≡ length s.inputs = ap length (c.items-bits.ensures ∙ ap (λ (t : StageData). t.inputs) c.stage.view_is) in
    let width : a.width ≡ length s.inputs = c.new-space.ensures.width ∙ long in
    let order : List ℕ = c.in_ok-order.order in
    let ordered : order ≡ ascending s = c.in_ok-order.ensures.bits ∙ ap (range_with_len 0) long in
    record {
      word = IfOk-weaker c.orphan.result _ (λ word. word ≡ least_word_by (ascending s) s (Orphan c.args.cell))
          (λ word said. said ∙ ap (λ o. least_word_by o s (Orphan c.args.cell)) (c.in_ok-base.ensures.order ∙ ordered))
          c.orphan.ensures.word;
      few = OnOk-more c.orphan.result (fits b (tables_by c.in_ok-base.base.wiring.order s (Cell c.args.cell)) ≡ true) (made_count s c.args.cell ≤ c.args.limit)
          (λ h.
          all_few a s (Cell c.args.cell) c.args.limit width c.new-space.ensures.limit c.new-space.ensures.new order ordered b c.in_ok-base.ensures.kept c.in_ok-base.ensures.held
          (subst (λ (o : List ℕ). fits b (tables_by o s (Cell c.args.cell)) ≡ true) c.in_ok-base.ensures.order h))
          c.orphan.ensures.fits;
      full = λ e.
          all_over a s (Cell c.args.cell) c.args.limit width c.new-space.ensures.limit c.new-space.ensures.new order ordered b c.in_ok-base.ensures.kept c.in_ok-base.ensures.held
          (subst (λ (o : List ℕ). fits b (tables_by o s (Cell c.args.cell)) ≡ false) c.in_ok-base.ensures.order (c.orphan.ensures.full e));
    }
