-- A fault of the first stage makes a run go wrong, since each word of it is an input.
use Rattle.ncl_faulty.proofs.Terms.{Bool, GoesWrong, HasNoDataBank, IsDelayInsensitive, List, PipelineData, Shape, Some, StageData, StageFault, [], arith, length, refused-wrong, shows, slice_get, true, wrong-insensitive, ◌∷◌, ◌≡◌}

module _ (p : PipelineData) (shape : Shape p.netlist p) (null : HasNoDataBank p) (s : StageData) (at : slice_get p.stages 0 ≡ Some s)
    (word : List Bool) (wide : length word ≡ length p.inputs) (fault : StageFault) (shown : shows s word fault ≡ true) where
  pub first_wrong : GoesWrong p (word ∷ [])
  first_wrong = refused-wrong p shape null word wide 0 s at (λ k t before at_k. absurd (omega (arith, before))) fault shown

  pub first_sensitive : IsDelayInsensitive p → ⊥
  first_sensitive = wrong-insensitive p (word ∷ []) (wide, tt) first_wrong
