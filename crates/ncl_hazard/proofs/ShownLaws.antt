-- What an orphan that can be explained gives to the search for an input and to the run over it.
use Rattle.ncl_hazard.proofs.Terms.{All, All-from_members, AreOrigins, AreSoundBefore, Bool, BringsOrphan, CellId, Contains-from_slice_get, Fire, HasNoDataBank, InRange, IsCellOrder, IsPlaceOf, List, Member-from_Contains, NetlistData, OriginsData, PipelineData, Shape, Some, StageCell, StageData, [], ap, arith, brings_orphan, coming, enabled, false, going, laid_out, least_input, length, reset, slice_get, slice_get_within, subst, suc, sym, tried, true, words, words-length, ℕ, ◌++◌, ◌+◌, ◌<◌, ◌∙◌, ◌∷◌, ◌≡◌, ◌≢◌}
use Rattle.ncl_hazard.proofs.Found.{cells_are}
use Rattle.ncl_hazard.proofs.ShownRuns.{explained_of}
use Rattle.ncl_hazard.proofs.ItemLaws.{coming-tried, going-tried}
use Rattle.ncl_hazard.proofs.OrphanPlaces.{found-some}

one_more : (before : ℕ) → suc before ≡ before + 1
one_more before = omega arith

-- the least input brings the orphan
pub brings-least : (p : PipelineData) (before : ℕ) (cell : CellId) (s : StageData) (place : ℕ) (input : List Bool) → IsPlaceOf p before cell s place → least_input p before s place ≡ Some input → BringsOrphan p before cell input
brings-least p before cell s place input at least =
    let (m, shows) = found-some (brings_orphan p before s place) (words (length p.inputs)) input least in
    record { own = s; place = place; of_cell = at; wide = words-length (length p.inputs) input m; shows = shows }

module _ (p : PipelineData) (shape : Shape p.netlist p) (before : ℕ) (cell : CellId) (input : List Bool) (b : BringsOrphan p before cell input) where
  pub inner : before < length p.stages
  inner = slice_get_within p.stages before b.own b.of_cell.0

  -- the cell is one of the netlist
  pub cell-within : cell.0 < length p.netlist.cells
  cell-within =
      let g : StageCell = b.of_cell.1.0 in
      let at_g : slice_get b.own.cells b.place ≡ Some g = b.of_cell.1.1 in
      let (l, is) = laid_out p shape in
      let many = is.as_many in
      let own : l.stage (suc before) ≡ b.own = is.in_order before b.own b.of_cell.0 in
      let m = Member-from_Contains (l.stage (suc before)).cells g (Contains-from_slice_get (l.stage (suc before)).cells b.place g (ap (λ (x : StageData). slice_get x.cells b.place) own ∙ at_g)) in
      let (c, at_c, is_c) = cells_are p shape l is (suc before) (omega (arith, inner, many)) g m in
      subst (λ (x : CellId). x.0 < length p.netlist.cells) b.of_cell.1.2 (slice_get_within p.netlist.cells g.cell.0 c at_c)

  pub coming-all : All (InRange p) (coming p (before + 1) cell)
  coming-all = coming-tried p shape (before + 1) (omega (arith, inner)) cell

  module _ (null : HasNoDataBank p) (sounds : AreSoundBefore p before) (order : List ℕ) (ord : IsCellOrder p.netlist order) where
    pub going-all : All (InRange p) (going p (before + 1) cell order)
    going-all = going-tried p shape order ord (before + 1) (omega (arith, inner)) cell

    -- what trying the items comes to
    pub record Comes (stages : ℕ) (i : CellId) : Type 0 where
      pub comes : enabled p (tried p (reset p (input ∷ [])) (coming p stages i)) (Fire i) ≡ true
      pub goes : enabled p (tried p (reset p (input ∷ [])) (coming p stages i ++ going p stages i order)) (Fire i) ≡ false
      pub others : All (λ item. item ≢ Fire i) (going p stages i order)

    pub all-comes : Comes (before + 1) cell
    all-comes =
        let g : StageCell = b.of_cell.1.0 in
        let (c, d, o, run) = explained_of p shape null order ord before b.own b.of_cell.0 sounds b.place g b.of_cell.1.1 input b.wide b.shows in
        subst (λ (i : CellId). Comes (before + 1) i) b.of_cell.1.2 (subst (λ k. Comes k g.cell) (one_more before) (record {
          comes = c;
          goes = d;
          others = All-from_members (λ item. item ≢ Fire g.cell) (going p (suc before) g.cell order) o;
        }))

-- the order of the cells, as origins have it
pub order-of : (n : NetlistData) (o : OriginsData) (order : List ℕ) → AreOrigins n o → order ≡ o.order → IsCellOrder n order
order-of n o order are is = subst (IsCellOrder n) (sym is) are.order
