use Rattle.ncl_faulty.proofs.Terms.{All, All-from_members, IsSound, IsStage-from_test, StageData, [], delay_insensitive, inl, inr, member_cases, rails, refl, stage, subst, wires, wires_pipeline, wires_sound, ◌∷◌}
use Rattle.ncl_faulty.proofs.WiresShape.{wires_shape}
use Rattle.ncl_faulty.proofs.wires.are_delay_insensitive.Goals as goal

abbrev wires_stage : StageData
wires_stage = stage (rails 8 9 ∷ []) [] (rails 8 9 ∷ [])

all_sound : All IsSound wires_pipeline.stages
all_sound = All-from_members IsSound wires_pipeline.stages (λ s m. elim (member_cases s wires_stage [] m) [
  | inl same ↦ subst IsSound same (wires_sound wires_stage (IsStage-from_test wires_stage refl) refl refl)
  | inr none ↦ elim none [ ]
])

pub returns-clause-sound : goal.returns-clause-sound
returns-clause-sound c = all_sound

pub returns-clause-insensitive : goal.returns-clause-insensitive
returns-clause-insensitive c = delay_insensitive wires wires_pipeline wires_shape all_sound
