-- What `match` replies to the files of a netlist and of models.
use Rattle.std.specs.Prelude.{ℕ, List, ◌++◌, Bool, length, Option, Ok, Err, codes, decimal}
use Rattle.ncl_base.specs.Files.{Files}
use Rattle.ncl_base.specs.Words.{text_of}
use Rattle.ncl_blif.specs.declared.model.Model.{Model}
use Rattle.ncl_blif.specs.Meaning.{width_of}
use Rattle.ncl_shape.specs.Pipeline.{PipelineData}
use Rattle.ncl_match.specs.Circuit.{Circuit, circuit_of}
use Rattle.ncl_match.specs.Answer.{IsAnswer, outputs_of}
use Rattle.ncl_match.specs.declared.answer.Compared.TheVariants.{Same, Differ, Widths}
use Rattle.ncl_match.specs.declared.answer.CompareFault.TheVariants.{Full}
use Rattle.ncl_lines.specs.Line.{line}
use Rattle.ncl_check.specs.Text.{IsPipelineText, IsRefusedText}
use Rattle.ncl_reply.specs.Replies.{IsReadReply}
use Rattle.ncl_sim_match.specs.ModelsText.{AreModelsText, AreRefusedModels}

-- the line that tells how many bits the words of the netlist and of the models have, at the inputs and at the outputs
abbrev pub widths_line : Circuit → List Model → List ℕ
widths_line c models =
    line (codes "widths differ: netlist " ++ decimal (length c.inputs) ++ codes " to " ++ decimal (length c.outputs)
    ++ codes ", blif " ++ decimal (width_of models) ++ codes " to " ++ decimal (outputs_of models))

-- the line that tells which output, from 1, has more nodes than the limit
abbrev pub limit_line : ℕ → ℕ → List ℕ
limit_line output limit = line (codes "limit output " ++ decimal output ++ codes ": more than " ++ decimal limit ++ codes " nodes")

-- the line that tells at which word and in which output, from 1, the functions differ
abbrev pub differ_line : List Bool → ℕ → List ℕ
differ_line word output = line (codes "differ at word " ++ text_of word ++ codes ", output " ++ decimal output)

-- what is replied to a circuit and models, where an output may have so many nodes: a line for each answer
pub data IsMatched (c : Circuit) (models : List Model) (limit : ℕ) : ℕ → List ℕ → Type 0 where
  -- the words have not the same numbers of bits
  widths : IsAnswer c models limit (Ok Widths) → IsMatched c models limit 1 (widths_line c models)
  -- this is the first output that passes the limit
  full : (output : ℕ) → IsAnswer c models limit (Err (Full output)) → IsMatched c models limit 6 (limit_line output limit)
  -- this is the least word at which they differ, and the first output that differs there
  differs : (word : List Bool) (output : ℕ) → IsAnswer c models limit (Ok (Differ word output)) → IsMatched c models limit 1 (differ_line word output)
  -- they have one function
  same : IsAnswer c models limit (Ok Same) → IsMatched c models limit 0 (line (codes "same"))

-- what is replied to the models in a file, where the pipeline is there
abbrev pub IsModelsMatched : Option Files → PipelineData → List ℕ → ℕ → ℕ → List ℕ → Type 0
IsModelsMatched told p blif limit = IsReadReply told blif AreRefusedModels AreModelsText (λ models. IsMatched (circuit_of p) models limit)

-- what is replied to the two files
abbrev pub IsMatchReply : Option Files → List ℕ → List ℕ → ℕ → ℕ → List ℕ → Type 0
IsMatchReply told netlist blif limit = IsReadReply told netlist IsRefusedText IsPipelineText (λ p. IsModelsMatched told p blif limit)
