-- The models of an adder that adds one bit of two numbers in each.
use Rattle.std.specs.Prelude.{◌≡◌, ℕ, ◌+◌, ◌<◌, ◌++◌, List, Bool, length, codes, decimal}
use Rattle.std.specs.List.{HoldsAt}
use Rattle.ncl_blif.specs.declared.model.Model.{Model}
use Rattle.ncl_blif.specs.Meaning.{Gives}
use Rattle.ncl_demo.specs.Adding.{bits_in, bits_out, stage_answer}

-- a model is the stage of this number, from 0, of an adder of so many bits
pub record IsStage (bits stage : ℕ) (model : Model) : Type 0 where
  pub name : model.name ≡ codes "add" ++ decimal (stage + 1)
  pub inputs : length model.inputs ≡ bits_in bits stage
  pub outputs : length model.outputs ≡ bits_out bits stage
  pub gives : (word : List Bool) → length word ≡ bits_in bits stage → Gives model word (stage_answer stage word)

-- models are the stages of an adder of so many bits
pub record IsAdder (bits : ℕ) (models : List Model) : Type 0 where
  pub many : length models ≡ bits
  pub stages : (stage : ℕ) → stage < bits → HoldsAt (IsStage bits stage) models stage
