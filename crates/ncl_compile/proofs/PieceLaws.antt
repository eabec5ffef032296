-- Stages and banks, one more at a time.
use Rattle.ncl_compile.proofs.Terms.{AreStages, IsStageOfModel, List, Model, StageParts, [], ap, arith, get_or, inl, inner_pairs, inr, length, length-take-le, length_push, push_cases, slice_get_within, stage_prefix, subst, sym, take, take_more, ℕ, ◌++◌, ◌+◌, ◌<◌, ◌∙◌, ◌∷◌, ◌≡◌}

-- the stage of a model at this place
abbrev pub IsStageAt : ℕ → Model → StageParts → Type 0
IsStageAt k model stage = IsStageOfModel model (inner_pairs k (length model.inputs)) (stage_prefix k) stage

pub AreStages-push : (models : List Model) (stages : List StageParts) (model : Model) (stage : StageParts) → AreStages models stages → IsStageAt (length models) model stage → AreStages (models ++ model ∷ []) (stages ++ stage ∷ [])
AreStages-push models stages model stage are is = record {
  as_many = omega (arith, many, length_push models model, length_push stages stage);
  each = λ k m s at_m at_s.
      elim (push_cases models model k m at_m) [
        | inl earlier ↦
            elim (push_cases stages stage k s at_s) [
              | inl also ↦ are.each k m s earlier also
              | inr (place, same) ↦
                  let within = slice_get_within models k m earlier in
                  absurd (omega (arith, within, place, many))
            ]
        | inr (place, same) ↦
            elim (push_cases stages stage k s at_s) [
              | inl also ↦
                  let within = slice_get_within stages k s also in
                  absurd (omega (arith, within, place, many))
              | inr (there, other) ↦
                  let here : IsStageAt k model stage = subst (λ i. IsStageAt i model stage) (sym place) is in
                  subst (IsStageAt k m) other (subst (λ z. IsStageAt k z stage) same here)
            ]
      ];
}
  where
    many : length stages ≡ length models
    many = are.as_many

-- the stage of the next model
pub AreStages-more : (models : List Model) (i : ℕ) (model : Model) (stages : List StageParts) (stage : StageParts) → i < length models → model ≡ get_or models i model → AreStages (take i models) stages → IsStageAt i model stage → AreStages (take (i + 1) models) (stages ++ stage ∷ [])
AreStages-more models i model stages stage lt at are is =
    let place : length (take i models) ≡ i = length-take-le i models (omega (arith, lt)) in
    let whole : take (i + 1) models ≡ take i models ++ model ∷ [] = take_more models i model lt ∙ ap (λ z. take i models ++ z ∷ []) (sym at) in
    subst (λ l. AreStages l (stages ++ stage ∷ [])) (sym whole) (AreStages-push (take i models) stages model stage are (subst (λ k. IsStageAt k model stage) (sym place) is))
