-- The pipeline whose fault no input brings: at the words that inputs bring no stage shows a fault.
use Rattle.ncl_faulty.proofs.Terms.{Bool, IsSoundAt, IsSoundWhereReached, List, Some, StageData, [], arith, brings, condition_of-other, differing, doubling, false, other_faults, refl, same_Some, shows, slice_get, subst, suc, true, twins, zero, ℕ, ◌∷◌, ◌≡◌}

-- the first stage at a bit, and the second at two equal bits
doubling_sound : (b : Bool) → IsSoundAt doubling (b ∷ [])
doubling_sound false = λ fault. other_faults 4 (λ f. shows doubling (false ∷ []) f ≡ false) 2 2 1 0 (λ d. (refl, (refl, λ k. refl))) (λ d. (refl, (refl, λ k. refl))) (λ d. (refl, λ k. refl)) (λ d k. refl) fault (condition_of-other fault)
doubling_sound true = λ fault. other_faults 4 (λ f. shows doubling (true ∷ []) f ≡ false) 2 2 1 0 (λ d. (refl, (refl, λ k. refl))) (λ d. (refl, (refl, λ k. refl))) (λ d. (refl, λ k. refl)) (λ d k. refl) fault (condition_of-other fault)

differing_sound : (b : Bool) → IsSoundAt differing (b ∷ b ∷ [])
differing_sound false = λ fault. other_faults 4 (λ f. shows differing (false ∷ false ∷ []) f ≡ false) 2 2 2 1 (λ d. (refl, (refl, λ k. refl))) (λ d. (refl, (refl, λ k. refl))) (λ d. (refl, (refl, λ k. refl))) (λ d. (refl, λ k. refl)) fault (condition_of-other fault)
differing_sound true = λ fault. other_faults 4 (λ f. shows differing (true ∷ true ∷ []) f ≡ false) 2 2 2 1 (λ d. (refl, (refl, λ k. refl))) (λ d. (refl, (refl, λ k. refl))) (λ d. (refl, (refl, λ k. refl))) (λ d. (refl, λ k. refl)) fault (condition_of-other fault)

-- what holds of the stages holds of what stands at each place
each_stage : (word : List Bool) → IsSoundAt doubling (brings twins.stages 0 word) → IsSoundAt differing (brings twins.stages 1 word) → (k : ℕ) (s : StageData) → slice_get twins.stages k ≡ Some s → IsSoundAt s (brings twins.stages k word)
each_stage word first second zero s at = subst (λ t. IsSoundAt t (brings twins.stages 0 word)) (same_Some doubling s at) first
each_stage word first second (suc zero) s at = subst (λ t. IsSoundAt t (brings twins.stages 1 word)) (same_Some differing s at) second
each_stage word first second (suc (suc k)) s at = absurd cc

pub twins_reached : IsSoundWhereReached twins
twins_reached [] wide = absurd (omega (arith, wide))
twins_reached (false ∷ []) wide = each_stage (false ∷ []) (doubling_sound false) (differing_sound false)
twins_reached (true ∷ []) wide = each_stage (true ∷ []) (doubling_sound true) (differing_sound true)
twins_reached (a ∷ b ∷ word) wide = absurd (omega (arith, wide))
