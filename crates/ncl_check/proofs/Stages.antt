-- The stages of a pipeline that has a shape.
use Rattle.ncl_check.proofs.Terms.{All, All-from_members, Contains-from_Member, IsSamePipeline, IsStage, NetlistData, PipelineData, Shape, Some, StageData, ap, arith, length, slice_get, slice_get-from_Contains, slice_get-some, slice_get_within, ℕ, ◌+◌, ◌<◌, ◌≡◌}

module _ (n : NetlistData) (p : PipelineData) (shape : Shape n p) where
  -- each of them is a stage
  stage_at : (k : ℕ) (s : StageData) → slice_get p.stages k ≡ Some s → IsStage s
  stage_at k s at =
      let within : k < length p.stages = slice_get_within p.stages k s at in
      let (bank, here) = slice_get-some p.banks k (omega (arith, shape.stages)) in
      let (next, after) = slice_get-some p.banks (k + 1) (omega (arith, shape.stages)) in
      (shape.each_stage k bank next s here after at).1.is_stage

  pub are_stages : All IsStage p.stages
  are_stages =
      All-from_members IsStage p.stages (λ s m. let (k, at) = slice_get-from_Contains p.stages s (Contains-from_Member s m) in stage_at k s at)

-- two pipelines that are the same have as many stages
pub as_many_stages : (n : NetlistData) (p q : PipelineData) → Shape n p → Shape n q → IsSamePipeline p q → length p.stages ≡ length q.stages
as_many_stages n p q shape_p shape_q same = omega (arith, shape_p.stages, shape_q.stages, ap length same.banks)
