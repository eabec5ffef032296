-- The search in the joined stage answers as an explanation does.
use Rattle.ncl_hazard.proofs.Terms.{Base, IsSound, List, Orphan, PipelineData, Shape, Some, StageCell, StageData, Without, ap, ascending, brings, cells_of, distinct_beads, functions_before, functions_of, gate_as, get_or, joined, joined_cells, laid_out, least_input, least_word_by, length, length-append, length-map, made_count, map, map-append, names_after, net-tables, net_functions, net_tables_by, slice_get, slice_get-get_or, slice_get_within, stage_functions, suc, sym, table_of, tables_by, take, val, why_count, why_tables, words, words_by, words_by-ascending, ℕ, ◌++◌, ◌+◌, ◌<◌, ◌∙◌, ◌≡◌}
use Rattle.std.specs.FinSet as set
use Rattle.ncl_hazard.proofs.JoinedLaws.{least-joined}
use Rattle.ncl_hazard.proofs.JoinedTables.{made, asked, beads-joined}

-- the stage that stands at a place of the pipeline's list
pub stage-at : (p : PipelineData) (stages : List StageData) (before : ℕ) (own s : StageData) → stages ≡ p.stages → own ≡ get_or stages before own → before < length p.stages → slice_get p.stages before ≡ Some s → own ≡ s
stage-at p stages before own s same is lt at =
    let here_own : slice_get p.stages before ≡ Some own = slice_get-get_or p.stages before own lt ∙ ap (λ xs. Some (get_or xs before own)) (sym same) ∙ ap Some (sym is) in
    cc

-- how many gates the joined stage has
pub joined-long : (p : PipelineData) (before : ℕ) (s : StageData) → slice_get p.stages before ≡ Some s → length (joined_cells p (suc before)) ≡ length (joined_cells p before) + length s.cells
joined-long p before s at =
    length-append (joined_cells p before) (map (gate_as (names_after p (suc before))) (cells_of (slice_get p.stages before)))
    ∙ ap (λ n. length (joined_cells p before) + n) (length-map (cells_of (slice_get p.stages before)) (gate_as (names_after p (suc before))) ∙ ap (λ o. length (cells_of o)) at)

module _ (p : PipelineData) (shape : Shape p.netlist p) (before : ℕ) (s : StageData) (at : slice_get p.stages before ≡ Some s)
    (sounds : (k : ℕ) (t : StageData) → k < before → slice_get p.stages k ≡ Some t → IsSound t) (place : ℕ) (g : StageCell) (at_g : slice_get s.cells place ≡ Some g) where
  abbrev place_j : ℕ
  place_j = length (joined_cells p before) + place

  pub same-input : least_word_by (ascending (joined p (suc before))) (joined p (suc before)) (Orphan place_j) ≡ least_input p before s place
  same-input =
      let (l, is) = laid_out p shape in
      let same : l.stage (suc before) ≡ s = is.in_order before s at in
      least-joined p shape l is before (slice_get_within p.stages before s at) sounds place g (ap (λ (x : StageData). slice_get x.cells place) same ∙ at_g)
      ∙ ap (λ x. least_input p before x place) same

  pub same-count : made_count (joined p (suc before)) place_j ≡ why_count p before place
  same-count =
      let (l, is) = laid_out p shape in
      let inner = slice_get_within p.stages before s at in
      let same : l.stage (suc before) ≡ s = is.in_order before s at in
      let here_g : slice_get (l.stage (suc before)).cells place ≡ Some g = ap (λ (x : StageData). slice_get x.cells place) same ∙ at_g in
      let j : StageData = joined p (suc before) in
      let n : ℕ = length p.inputs in
      let order : List ℕ = ascending j in
      let tables : net_tables_by order j Base ++ tables_by order j (Without place_j) ≡ map (table_of (words n)) (made p shape l is before inner sounds place g here_g) =
      ap (λ xs. xs ++ tables_by order j (Without place_j)) (sym (net-tables j order Base))
      ∙ sym (map-append (table_of (words_by order)) (net_functions j (λ w. val j w Base)) (functions_of j (Without place_j)))
      ∙ ap (λ ws. map (table_of ws) (made p shape l is before inner sounds place g here_g)) (words_by-ascending n) in
      let why : map (table_of (words n)) (asked p shape l is before inner sounds place g here_g) ≡ why_tables p before place =
      ap (λ o. map (table_of (words n)) (functions_before (λ w. w) (take before p.stages) ++ stage_functions (brings p.stages before) o place)) (ap Some same ∙ sym at) in
      ap (λ ts. set.len (distinct_beads n ts)) tables ∙ ap set.len (beads-joined p shape l is before inner sounds place g here_g) ∙ ap (λ ts. set.len (distinct_beads n ts)) why
