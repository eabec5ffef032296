-- What breaks where a stage isn't sound or a pipeline is ill shaped.
pub use Rattle.ncl_insensitivity.proofs.Terms.{AckOf, AreWordsOf, AtCell, Bool, BothRails, BreaksOnly, ComesFrom, DeliversWhatIsDue, HasOne, Incomplete, IsNetlist, IsQuiet, IsRoot, IsRun, IsSafe, IsSound, IsStage-from_test, IsUnmixed, Item, List, Lower, NoRail, Orphan, PipelineData, Raise, Ready, StageData, StageFault, Take, TakesBack, Th12, Th22, [], ack, acknowledges_one_bit, after, after_run, and_stage, ap, arith, asks_too_early, bit_left_out, both_ways, cell_of, condition_of, dead_stage, delivers_both_rails, delivers_too_early, eager_stage, excites_both, false, fire, gate, gets_stuck, illegal_stage, inl, inr, is_cell, leaves_a_gate_behind, length, map, not, of_two, one_bit_seen, one_offered, one_word, one_zero, orphan_stage, refl, reset, shows, suc, sym, true, two_offered, two_roots, two_zeros, with_both_rails, with_dead_rail, with_eager_and, with_orphan, with_th12, with_two_drivers, with_two_roots, without_a_bit, zero, ℕ, ◌∙◌, ◌∷◌, ◌≡◌, ◌≢◌}
use Rattle.ncl_shape.specs.declared.item.Item.TheVariants.{Cell}
use Rattle.ncl_shape.proofs.WrittenCells.{of_bank}
pub use Rattle.ncl_insensitivity.proofs.WrittenNetlists.{IsHiddenAtOne, IsHiddenAtOne-word, netlist_from_tests, other_faults, quiet_by_cells}

-- ---- the AND of two bits is a sound stage: by computation, at each word and fault

-- what holds of each pair of bits in turn
pub of_each : (P : Bool → Bool → Type 0) → P false false → P false true → P true false → P true true → (a b : Bool) → P a b
of_each P ff ft tf tt false false = ff
of_each P ff ft tf tt false true = ft
of_each P ff ft tf tt true false = tf
of_each P ff ft tf tt true true = tt

pub and_stage-sound : IsSound and_stage
and_stage-sound fault = of_two (λ word. shows and_stage word fault ≡ false) (each fault)
  where
    each : (fault : StageFault) (a b : Bool) → shows and_stage (a ∷ b ∷ []) fault ≡ false
    each (BothRails zero) = of_each (λ a b. shows and_stage (a ∷ b ∷ []) (BothRails 0) ≡ false) refl refl refl refl
    each (BothRails (suc k)) = λ a b. refl
    each (NoRail zero) = of_each (λ a b. shows and_stage (a ∷ b ∷ []) (NoRail 0) ≡ false) refl refl refl refl
    each (NoRail (suc k)) = λ a b. refl
    each (Incomplete zero) = of_each (λ a b. shows and_stage (a ∷ b ∷ []) (Incomplete 0) ≡ false) refl refl refl refl
    each (Incomplete (suc zero)) = of_each (λ a b. shows and_stage (a ∷ b ∷ []) (Incomplete 1) ≡ false) refl refl refl refl
    each (Incomplete (suc (suc k))) = λ a b. refl
    each (Orphan zero) = of_each (λ a b. shows and_stage (a ∷ b ∷ []) (Orphan 0) ≡ false) refl refl refl refl
    each (Orphan (suc zero)) = of_each (λ a b. shows and_stage (a ∷ b ∷ []) (Orphan 1) ≡ false) refl refl refl refl
    each (Orphan (suc (suc k))) = λ a b. refl

-- ---- the stages that break one condition of soundness break no other: by computation, at each word and fault

-- a stage of one bit breaks one condition alone where a bit shows a fault of it and none shows one of another
breaks_at_one : (s : StageData) (fault : StageFault) (bit : Bool) → length s.inputs ≡ 1 → shows s (bit ∷ []) fault ≡ true → ((other : StageFault) → condition_of other ≢ condition_of fault → IsHiddenAtOne s other) → BreaksOnly s fault
breaks_at_one s fault bit one shown hidden = record {
  word = bit ∷ [];
  right = sym one;
  shown = shown;
  others = λ word other right differs. IsHiddenAtOne-word s other (hidden other differs) word (right ∙ one);
}

pub orphan_stage_breaks : BreaksOnly orphan_stage (Orphan 0)
orphan_stage_breaks = breaks_at_one orphan_stage (Orphan 0) true refl refl (other_faults 3 (IsHiddenAtOne orphan_stage) 1 1 1 0 (λ differs. ((refl, refl), λ k. (refl, refl))) (λ differs. ((refl, refl), λ k. (refl, refl))) (λ differs. ((refl, refl), λ k. (refl, refl))) (λ differs. absurd (differs refl)))

pub dead_stage_breaks : BreaksOnly dead_stage (NoRail 0)
dead_stage_breaks = breaks_at_one dead_stage (NoRail 0) false refl refl (other_faults 1 (IsHiddenAtOne dead_stage) 1 0 1 1 (λ differs. ((refl, refl), λ k. (refl, refl))) (λ differs. absurd (differs refl)) (λ differs. ((refl, refl), λ k. (refl, refl))) (λ differs. ((refl, refl), λ k. (refl, refl))))

pub illegal_stage_breaks : BreaksOnly illegal_stage (BothRails 0)
illegal_stage_breaks = breaks_at_one illegal_stage (BothRails 0) true refl refl (other_faults 0 (IsHiddenAtOne illegal_stage) 0 2 1 1 (λ differs. absurd (differs refl)) (λ differs. ((refl, refl), ((refl, refl), λ k. (refl, refl)))) (λ differs. ((refl, refl), λ k. (refl, refl))) (λ differs. ((refl, refl), λ k. (refl, refl))))

pub eager_stage_breaks : BreaksOnly eager_stage (Incomplete 0)
eager_stage_breaks = record {
  word = false ∷ false ∷ [];
  right = refl;
  shown = refl;
  others = λ w other right differs. of_two (λ w. shows eager_stage w other ≡ false) (each other differs) w right;
}
  where
    each : (other : StageFault) → condition_of other ≢ 2 → (a b : Bool) → shows eager_stage (a ∷ b ∷ []) other ≡ false
    each (BothRails zero) differs = of_each (λ a b. shows eager_stage (a ∷ b ∷ []) (BothRails 0) ≡ false) refl refl refl refl
    each (BothRails (suc k)) differs = λ a b. refl
    each (NoRail zero) differs = of_each (λ a b. shows eager_stage (a ∷ b ∷ []) (NoRail 0) ≡ false) refl refl refl refl
    each (NoRail (suc k)) differs = λ a b. refl
    each (Incomplete k) differs = absurd (differs refl)
    each (Orphan zero) differs = of_each (λ a b. shows eager_stage (a ∷ b ∷ []) (Orphan 0) ≡ false) refl refl refl refl
    each (Orphan (suc zero)) differs = of_each (λ a b. shows eager_stage (a ∷ b ∷ []) (Orphan 1) ≡ false) refl refl refl refl
    each (Orphan (suc (suc k))) differs = λ a b. refl

-- ---- what lacks a condition of shape, and why it is not safe

-- where a run leads to a state in which one item takes another back, the pipeline is not safe
pub taken_back_is_unsafe : (p : PipelineData) (offered : List (List Bool)) (items : List Item) → AreWordsOf p offered → IsRun p offered items
    → (item other : Item) → TakesBack p (after p (reset p offered) items) item other → IsSafe p → ⊥
taken_back_is_unsafe p offered items words run item other back safe =
    both_ways _ back.other_lost (safe.persistent offered items words run item other back.differ back.can back.other_can)

-- cells of different numbers are different items
number_of : Item → ℕ
number_of (Cell c) = c.0
number_of (Raise bit) = 0
number_of (Lower bit) = 0
number_of Take = 0
number_of Ready = 0

pub cells_differ : (i j : ℕ) → i ≢ j → fire i ≢ fire j
unfolding number_of
cells_differ i j apart same = apart (ap number_of same)

-- the TH12 that completes the first bank comes from its acknowledge cells, and is no gate of a tree
pub th12_is_mixed : AtCell IsUnmixed with_th12.netlist 6 → ⊥
th12_is_mixed holds =
    elim ((holds (cell_of with_th12.netlist 6) refl).gate Th12 refl) [
      | inl (request, only) ↦ let is_rail = only.only (AckOf 11) from_acks in absurd cc
      | inr (request, only, tree) ↦ elim tree [ ]
    ]
  where
    from_acks : ComesFrom with_th12.netlist 10 (AckOf 11)
    from_acks =
        gate (cell_of with_th12.netlist 6) (is_cell with_th12.netlist 6 refl) (Th12, refl) (0, omega arith, refl)
        (ack (cell_of with_th12.netlist 4) (is_cell with_th12.netlist 4 refl, refl, (cell_of with_th12.netlist 0, of_bank with_th12.netlist 0 11 refl refl refl, refl)))

-- the nets ko and e1 are roots of the first bank
pub roots_are_two : HasOne (IsRoot two_roots 12) → ⊥
roots_are_two one =
    let first = one.only 11 (record { acks = from_k1; used = inr (_, refl, refl) }) in
    let second = one.only 10 (record { acks = gate (cell_of two_roots 6) (is_cell two_roots 6 refl) (Th22, refl) (0, omega arith, refl) from_k1; used = inr (_, refl, refl) }) in
    omega (arith, first, second)
  where
    from_k1 : ComesFrom two_roots 11 (AckOf 12)
    from_k1 = ack (cell_of two_roots 4) (is_cell two_roots 4 refl, refl, (cell_of two_roots 0, of_bank two_roots 0 12 refl refl refl, refl))

-- but for the one with two drivers they are netlists
pub bit_left_out_netlist : IsNetlist bit_left_out
bit_left_out_netlist = netlist_from_tests bit_left_out (record { driven = refl; fits = refl; ports_first = refl; in_order = refl; net_names = refl; cell_names = refl; few_cells = omega arith; few_nets = omega arith; few_ports = omega arith })

pub th12_netlist : IsNetlist with_th12.netlist
th12_netlist = netlist_from_tests with_th12.netlist (record { driven = refl; fits = refl; ports_first = refl; in_order = refl; net_names = refl; cell_names = refl; few_cells = omega arith; few_nets = omega arith; few_ports = omega arith })

pub two_roots_netlist : IsNetlist two_roots
two_roots_netlist = netlist_from_tests two_roots (record { driven = refl; fits = refl; ports_first = refl; in_order = refl; net_names = refl; cell_names = refl; few_cells = omega arith; few_nets = omega arith; few_ports = omega arith })
