-- What is shown by computation: of some first numbers one by one, of the faults of a stage, and of the items of a state.
pub use Rattle.ncl_insensitivity.proofs.Terms.{Bool, BothRails, Incomplete, IsQuiet, List, Lower, NoRail, Orphan, PipelineData, Raise, Ready, StageData, StageFault, State, Take, [], arith, at_the_end, condition_of, enabled, false, fire, holding_pipeline, length, refl, shows, suc, true, where_holding_rests, wires_pipeline, zero, ℕ, ◌∷◌, ◌≡◌, ◌≢◌}
use Rattle.ncl_shape.specs.declared.item.Item.TheVariants.{Cell}

-- it holds of each of the first numbers, and of all numbers after them
abbrev pub HoldsFrom : ℕ → (ℕ → Type 0) → Type 0
HoldsFrom zero P = (n : ℕ) → P n
HoldsFrom (suc count) P = P 0 × HoldsFrom count (λ n. P (suc n))

pub HoldsFrom-all : (count : ℕ) (P : ℕ → Type 0) → HoldsFrom count P → (n : ℕ) → P n
HoldsFrom-all zero P all n = all n
HoldsFrom-all (suc count) P (first, rest) zero = first
HoldsFrom-all (suc count) P (first, rest) (suc n) = HoldsFrom-all count (λ n. P (suc n)) rest n

-- a state is quiet where no cell can fire, cell by cell, and nothing else happens
pub quiet_by_cells : (p : PipelineData) (s : State) (count : ℕ) → HoldsFrom count (λ n. enabled p s (fire n) ≡ false) → ((bit : ℕ) → enabled p s (Raise bit) ≡ false) → ((bit : ℕ) → enabled p s (Lower bit) ≡ false) → enabled p s Take ≡ false → enabled p s Ready ≡ false → IsQuiet p s
quiet_by_cells p s count cells raise lower take ready (Cell c) = HoldsFrom-all count (λ n. enabled p s (fire n) ≡ false) cells c.0
quiet_by_cells p s count cells raise lower take ready (Raise bit) = raise bit
quiet_by_cells p s count cells raise lower take ready (Lower bit) = lower bit
quiet_by_cells p s count cells raise lower take ready Take = take
quiet_by_cells p s count cells raise lower take ready Ready = ready

-- no word of one bit shows the fault
abbrev pub IsHiddenAtOne : StageData → StageFault → Type 0
IsHiddenAtOne s fault = (shows s (false ∷ []) fault ≡ false) × (shows s (true ∷ []) fault ≡ false)

pub IsHiddenAtOne-word : (s : StageData) (fault : StageFault) → IsHiddenAtOne s fault → (word : List Bool) → length word ≡ 1 → shows s word fault ≡ false
IsHiddenAtOne-word s fault hidden [] right = absurd (omega arith)
IsHiddenAtOne-word s fault hidden (false ∷ []) right = hidden.0
IsHiddenAtOne-word s fault hidden (true ∷ []) right = hidden.1
IsHiddenAtOne-word s fault hidden (a ∷ b ∷ rest) right = absurd (omega arith)

-- the number of a condition is below four
pub condition_of-other : (fault : StageFault) → condition_of fault ≢ 4
condition_of-other (BothRails output) = λ same. absurd cc
condition_of-other (NoRail output) = λ same. absurd cc
condition_of-other (Incomplete bit) = λ same. absurd cc
condition_of-other (Orphan cell) = λ same. absurd cc

-- what holds of the faults of each condition but one, shown for the first of each condition one by one
pub other_faults : (condition : ℕ) (P : StageFault → Type 0) (outputs dead bits cells : ℕ) → (0 ≢ condition → HoldsFrom outputs (λ k. P (BothRails k))) → (1 ≢ condition → HoldsFrom dead (λ k. P (NoRail k))) → (2 ≢ condition → HoldsFrom bits (λ k. P (Incomplete k))) → (3 ≢ condition → HoldsFrom cells (λ k. P (Orphan k))) → (fault : StageFault) → condition_of fault ≢ condition → P fault
other_faults condition P outputs dead bits cells both none follows seen (BothRails k) differs = HoldsFrom-all outputs (λ k. P (BothRails k)) (both differs) k
other_faults condition P outputs dead bits cells both none follows seen (NoRail k) differs = HoldsFrom-all dead (λ k. P (NoRail k)) (none differs) k
other_faults condition P outputs dead bits cells both none follows seen (Incomplete k) differs = HoldsFrom-all bits (λ k. P (Incomplete k)) (follows differs) k
other_faults condition P outputs dead bits cells both none follows seen (Orphan k) differs = HoldsFrom-all cells (λ k. P (Orphan k)) (seen differs) k
