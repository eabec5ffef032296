-- What an acceptance says.
use Rattle.std.specs.Prelude.{ℕ, List}
use Rattle.ncl_netlist.specs.declared.parts.Parts.{Parts}
use Rattle.ncl_netlist.specs.Parts.{netlist_of}
use Rattle.ncl_netlist.specs.Faults.{IsFaultless}
use Rattle.ncl_reader.specs.Reads.{Reads}
use Rattle.ncl_shape.specs.Pipeline.{PipelineData}
use Rattle.ncl_shape.specs.Shape.{Shape}
use Rattle.ncl_machine.specs.DelayInsensitive.{IsDelayInsensitive}

-- the bytes are the text of parts that make a netlist, which has the shape of a pipeline, and the pipeline
-- is delay-insensitive: from reset, however long each gate takes, a gate that is excited stays so until it fires, what
-- is delivered is a first part of the words due: those that banks hold at reset, the last bank's first, and those offered,
-- each taken through the stages after it, and any two of them parted by NULL; no bit has both rails high; and a run that
-- can't go on has delivered all
pub record IsDelayInsensitiveText (bytes : List ℕ) : Type 0 where
  pub parts : Parts
  pub reads : Reads bytes parts
  pub builds : IsFaultless parts
  pub pipeline : PipelineData
  pub shape : Shape (netlist_of parts) pipeline
  pub insensitive : IsDelayInsensitive pipeline
