use Rattle.std.proofs.Common.{◌≡◌, ℕ, ◌<◌, Bool, true, false, List, [], ◌∷◌, Err, length, get_or, sym, ◌∙◌, ap, subst, arith}
use Rattle.std.specs.Prelude.{Contains}
use Rattle.std.proofs.lemmas.Result.{IfOk-weaker, on_ok_weaker}
use Rattle.ncl_gates.specs.declared.kind.Kind.TheVariants.{Th22}
use Rattle.ncl_shape.specs.declared.stage.StageCell.{StageCell}
use Rattle.ncl_shape.specs.Stage.{StageData, rail_nets, out_of}
use Rattle.ncl_base.proofs.Members.{Contains-from_Member, Member-append_right, Member-map, Member-get_or}
use Rattle.ncl_space.specs.Functions.{gate_table, least}
use Rattle.ncl_space.specs.Space.{IsLive, SpaceData, fits}
use Rattle.ncl_space.proofs.SpaceLaws.{both-live, keeps_along, too_much_by_front}
use Rattle.ncl_space.proofs.MakingLaws.{fits-along, handed_on}
use Rattle.ncl_faults.specs.declared.variant.Variant.TheVariants.{Base, Cell}
use Rattle.ncl_faults.specs.Faults.{Orphan}
use Rattle.std.specs.Option.{option_map}
use Rattle.ncl_stage.specs.BitOrder.{placed}
use Rattle.ncl_stage.specs.LeastWords.{least_word_by}
use Rattle.ncl_stage.specs.StageTables.{net_table_by, shared_tables_by}
use Rattle.ncl_stage.specs.Tables.{tables_by}
use Rattle.ncl_orphan.proofs.OrphanLaws.{unobserved_table, cell-tables, unobserved-made, unobserved-least}
use Rattle.ncl_stage.proofs.ChangedLaws.{values-width}
use Rattle.ncl_orphan.proofs.observing.unobserved.Goals as goal

-- a cell of a list that has some
by_cells : {P : Type 0} (cells : List StageCell) (k : ℕ) → k < length cells → ((d : StageCell) → P) → P
by_cells [] k lt f = absurd (omega arith)
by_cells (d ∷ cells) k lt f = f d

pub returns-in_err-all-clause-full : goal.returns-in_err-all-clause-full
returns-in_err-all-clause-full g c = λ e.
    let s : StageData = c.args.stage.now in
    let cell = c.args.cell in
    let old : SpaceData = g.P.Space.meaning c.args.space.now in
    by_cells s.cells cell c.requires.cell (λ d.
    subst (λ tables. fits old tables ≡ false) (sym (cell-tables s c.args.base.now.wiring.order cell d c.requires.cell))
    (too_much_by_front old (shared_tables_by c.args.base.now.wiring.order s (Cell cell)) (unobserved_table c.args.base.now.wiring.order s cell (get_or s.cells cell d) ∷ [])
    (c.in_err-all.ensures.full (ap Err (handed_on c.from_residual.result c.in_err-all.field-0.0 c.from_residual.ensures.1 e)))))

pub of-high-requires : goal.of-high-requires
of-high-requires g c =
    let s : StageData = c.args.stage.now in
    let cell = c.args.cell in
    let d : StageCell = c.index-items-cell.result in
    let cells : c.items.result.now ≡ s.cells = c.items.ensures ∙ ap (λ (t : StageData). t.cells) c.stage.view_is in
    subst (λ xs. Contains c.args.base.now.wiring.nets (get_or xs cell d).out.0) (sym cells)
    (subst (λ nets. Contains nets (out_of (get_or s.cells cell d))) (sym c.requires.base.wired.nets)
    (Contains-from_Member (out_of (get_or s.cells cell d)) (Member-append_right (rail_nets s.inputs) (out_of (get_or s.cells cell d)) (Member-map out_of (get_or s.cells cell d) (Member-get_or s.cells cell d c.requires.cell)))))

pub returns : goal.returns
returns g c =
    let s : StageData = c.args.stage.now in
    let cell = c.args.cell in
    let d : StageCell = c.index-items-cell.result in
    let old : SpaceData = g.P.Space.meaning c.args.space.now in
    let mid : SpaceData = g.P.Space.meaning c.all_data.new.space in
    let high = c.of-high.result in
    let cells : c.items.result.now ≡ s.cells = c.items.ensures ∙ ap (λ (t : StageData). t.cells) c.stage.view_is in
    let shown = c.of-high.ensures.shown old s Base c.requires.base in
    let one : mid.table high ≡ net_table_by c.args.base.now.wiring.order s Base (get_or s.cells cell d).out.0 = c.in_ok-all.ensures.kept.tables high shown.0 ∙ shown.1 ∙ ap (λ xs. net_table_by c.args.base.now.wiring.order s Base (get_or xs cell d).out.0) cells in
    let last : List Bool = unobserved_table c.args.base.now.wiring.order s cell (get_or s.cells cell d) in
    let is : gate_table mid.width Th22 (mid.table high ∷ mid.table c.in_ok-all.all ∷ []) ≡ last =
    (λ k. gate_table ((c.in_ok-all.ensures.kept.width ∙ (values-width (g.P.Space.meaning c.args.space.now) c.args.stage.now Base c.args.base.now c.facts-2.ensures c.facts.ensures c.requires.base)) k) Th22 (one k ∷ c.in_ok-all.ensures.table k ∷ [])) ∙ unobserved-made s c.args.base.now.wiring.order c.requires.base.wired.order cell (get_or s.cells cell d) in
    let along : fits mid (last ∷ []) ≡ fits old (tables_by c.args.base.now.wiring.order s (Cell cell)) =
    fits-along old mid (shared_tables_by c.args.base.now.wiring.order s (Cell cell)) (last ∷ []) c.in_ok-all.ensures.kept c.in_ok-all.ensures.held ∙ ap (fits old) (sym (cell-tables s c.args.base.now.wiring.order cell d c.requires.cell)) in
    record {
      live = IfOk-weaker c.apply.result _ (IsLive (g.P.Space.meaning c.apply.new.self)) (λ r made. made.live) c.apply.ensures.made;
      least = IfOk-weaker c.apply.result _ (λ r. option_map (placed c.args.base.now.wiring.order) (least true (length s.inputs) ((g.P.Space.meaning c.apply.new.self).table r)) ≡ least_word_by c.args.base.now.wiring.order s (Orphan cell))
          (λ r made. ap (λ t. option_map (placed c.args.base.now.wiring.order) (least true (length s.inputs) t)) (made.table ∙ is) ∙ unobserved-least s c.args.base.now.wiring.order c.requires.base.wired.order cell d c.requires.cell) c.apply.ensures.made;
      kept = keeps_along old mid (g.P.Space.meaning c.apply.new.self) c.in_ok-all.ensures.kept c.apply.ensures.kept;
      full = λ e. sym along ∙ ap (λ t. fits mid (t ∷ [])) (sym is) ∙ c.apply.ensures.full e;
      fits = on_ok_weaker c.apply.result (λ e. sym along ∙ ap (λ t. fits mid (t ∷ [])) (sym is) ∙ e) c.apply.ensures.fits;
    }

pub apply-requires-clause-live : goal.apply-requires-clause-live
apply-requires-clause-live g c =
    let shown = c.of-high.ensures.shown (g.P.Space.meaning c.args.space.now) c.args.stage.now Base c.requires.base in
    both-live (g.P.Space.meaning c.all_data.new.space) _ _ (c.in_ok-all.ensures.kept.live _ shown.0) c.in_ok-all.ensures.live
