-- A verdict on a pipeline names no cell but those of its netlist.
use Rattle.ncl_verdict.proofs.Terms.{AllByRecursion, Bank, Bool, BothRails, IfSome, Incomplete, List, NetlistData, NoRail, None, Option, Orphan, PipelineData, Shape, Some, SomeRegister, StageCell, StageData, StageFault, Variant, Verdict, [], arith, at_variant, cell_number, count, false, first_of, found, judgement, least_word, length, map, nat_lt, of_stage, option_and_then, refl, slice_get, slice_get_within, stopped_at, suc, true, variants, verdict_of, zero, ℕ, ◌+◌, ◌<◌, ◌∷◌, ◌≡◌}
use Rattle.std.proofs.Common.{unwrap_or, if◌then◌else◌}
use Rattle.ncl_verdict.specs.declared.verdict.Verdict.TheVariants as verdict
use Rattle.ncl_verdict.specs.Judgement.{faults_of}

-- a cell that the verdict names is one of the first so many
abbrev pub NamesBelow : ℕ → Verdict → Type 0
NamesBelow cells (verdict.Orphan stage cell word) = cell.0 < cells
NamesBelow cells v = Unit {0}

-- what holds of each answer holds of the first
holds_of_first : (P : Verdict → Type 0) (answers : List (Option Verdict)) → AllByRecursion (λ o. IfSome o P) answers → IfSome (first_of answers) P
holds_of_first P [] all = tt
holds_of_first P (None ∷ answers) all = holds_of_first P answers all.1
holds_of_first P (Some v ∷ answers) all = all.0

holds_of_each : {X : Type 0} (P : Verdict → Type 0) (answer : X → Option Verdict) (xs : List X) → ((k : ℕ) (x : X) → slice_get xs k ≡ Some x → IfSome (answer x) P) → AllByRecursion (λ o. IfSome o P) (map answer xs)
holds_of_each P answer [] each = tt
holds_of_each P answer (x ∷ xs) each = (each 0 x refl, holds_of_each P answer xs (λ k y at. each (suc k) y at))

holds_or_else : (P : Verdict → Type 0) (o : Option Verdict) (other : Verdict) → IfSome o P → P other → P (unwrap_or o other)
holds_or_else P None other h p = p
holds_or_else P (Some v) other h p = h

module _ (cells : ℕ) (some : 0 < cells) (limit : ℕ) where
  -- ---- one stage

  module _ (s : StageData) (within : (k : ℕ) (c : StageCell) → slice_get s.cells k ≡ Some c → c.cell.0 < cells) where
    number_below : (o : Option StageCell) → ((c : StageCell) → o ≡ Some c → c.cell.0 < cells) → (cell_number o).0 < cells
    number_below None h = some
    number_below (Some c) h = h c refl

    of_fault : (fault : StageFault) (word : List Bool) → NamesBelow cells (verdict_of s fault word)
    of_fault (BothRails output) word = tt
    of_fault (NoRail output) word = tt
    of_fault (Incomplete bit) word = tt
    of_fault (Orphan cell) word = number_below (slice_get s.cells cell) (within cell)

    of_word : (fault : StageFault) (o : Option (List Bool)) → IfSome (option_and_then (λ word. Some (verdict_of s fault word)) o) (NamesBelow cells)
    of_word fault None = tt
    of_word fault (Some word) = of_fault fault word

    of_stop : (variant : Variant) → IfSome (stopped_at limit s variant) (NamesBelow cells)
    of_stop variant = by (nat_lt limit (count s variant))
      where
        by : (b : Bool) → IfSome (if b then Some (verdict.Limit s.number) else None) (NamesBelow cells)
        by true = tt
        by false = tt

    of_variant : (variant : Variant) → IfSome (at_variant (stopped_at limit) s variant) (NamesBelow cells)
    of_variant variant =
        holds_of_first (NamesBelow cells) (stopped_at limit s variant ∷ map (found s) (faults_of s variant))
        (of_stop variant, holds_of_each (NamesBelow cells) (found s) (faults_of s variant) (λ k fault at. of_word fault (least_word s fault)))

    pub names_of_stage : IfSome (of_stage (stopped_at limit) s) (NamesBelow cells)
    names_of_stage =
        holds_of_first (NamesBelow cells) (map (at_variant (stopped_at limit) s) (variants s))
        (holds_of_each (NamesBelow cells) (at_variant (stopped_at limit) s) (variants s) (λ k variant at. of_variant variant))

  -- ---- the stages of a pipeline

  pub names_of_stages : (stages : List StageData) → ((j : ℕ) (s : StageData) → slice_get stages j ≡ Some s → (k : ℕ) (c : StageCell) → slice_get s.cells k ≡ Some c → c.cell.0 < cells) → NamesBelow cells (judgement limit stages)
  names_of_stages stages within =
      holds_or_else (NamesBelow cells) (first_of (map (of_stage (stopped_at limit)) stages)) verdict.Accepted
      (holds_of_first (NamesBelow cells) (map (of_stage (stopped_at limit)) stages) (holds_of_each (NamesBelow cells) (of_stage (stopped_at limit)) stages (λ j s at. names_of_stage s (within j s at))))
      tt

not_there : {X : Type 0} (xs : List X) (k : ℕ) → k < length xs → slice_get xs k ≡ None → ⊥
not_there [] k lt e = omega arith
not_there (x ∷ xs) zero lt e = cc
not_there (x ∷ xs) (suc k) lt e = not_there xs k (omega arith) e

-- the cells of a pipeline's stages are cells of its netlist
stage_cells_within : (n : NetlistData) (p : PipelineData) → Shape n p → (j : ℕ) (s : StageData) → slice_get p.stages j ≡ Some s → (k : ℕ) (c : StageCell) → slice_get s.cells k ≡ Some c → c.cell.0 < length n.cells
stage_cells_within n p shape j s at k c there =
    let place : j < length p.stages = slice_get_within p.stages j s at in
    let before : j < length p.banks = omega (arith, shape.stages) in
    let behind : j + 1 < length p.banks = omega (arith, shape.stages) in
    by (slice_get p.banks j) (slice_get p.banks (j + 1)) refl refl before behind
  where
    gate : (b next : Bank) → slice_get p.banks j ≡ Some b → slice_get p.banks (j + 1) ≡ Some next → c.cell.0 < length n.cells
    gate b next here after =
        let is = (shape.each_stage j b next s here after at).1.each k c there in
        slice_get_within n.cells c.cell.0 is.cell is.at

    by : (b next : Option Bank) → slice_get p.banks j ≡ b → slice_get p.banks (j + 1) ≡ next → j < length p.banks → j + 1 < length p.banks → c.cell.0 < length n.cells
    by (Some b) (Some next) here after l m = gate b next here after
    by None next here after l m = absurd (not_there p.banks j l here)
    by (Some b) None here after l m = absurd (not_there p.banks (j + 1) m after)

-- the verdict on a pipeline names no cell but those of its netlist
pub names_of_pipeline : (n : NetlistData) (p : PipelineData) → Shape n p → (limit : ℕ) → NamesBelow (length n.cells) (judgement limit p.stages)
names_of_pipeline n p shape limit =
    let (register, (place, within, at), is) = shape.chained SomeRegister in
    names_of_stages (length n.cells) (omega arith) limit p.stages (stage_cells_within n p shape)

-- nor does that of a fault of one of its stages
pub names_of_fault : (n : NetlistData) (p : PipelineData) → Shape n p → (j : ℕ) (s : StageData) → slice_get p.stages j ≡ Some s → (fault : StageFault) (word : List Bool) → NamesBelow (length n.cells) (verdict_of s fault word)
names_of_fault n p shape j s at_stage fault word =
    let (register, (place, within, at), is) = shape.chained SomeRegister in
    of_fault (length n.cells) (omega arith) 0 s (stage_cells_within n p shape j s at_stage) fault word
