-- What `compile` replies to a file.
use Rattle.std.specs.Prelude.{◌≡◌, ◌≢◌, ℕ, Bool, true, false, List, Option}
use Rattle.ncl_base.specs.Files.{Files}
use Rattle.ncl_blif.specs.declared.model.Model.{Model}
use Rattle.ncl_netlist.specs.Netlist.{NetlistData}
use Rattle.ncl_writer.specs.Text.{text_of}
use Rattle.ncl_compile.specs.declared.fault.CompileFault.{CompileFault}
use Rattle.ncl_compile.specs.declared.fault.CompileFault.TheVariants.{Memory}
use Rattle.ncl_top.specs.CompileText.{compile_line}
use Rattle.ncl_network.specs.Size.{CanBeCompiled}
use Rattle.ncl_compile.specs.TooLarge.{IsCompileFault}
use Rattle.ncl_compile.specs.Compiled.{Compiled}
use Rattle.ncl_merge.specs.Merged.{Merged}
use Rattle.ncl_reply.specs.Replies.{IsReadReply}
use Rattle.ncl_sim_match.specs.ModelsText.{AreModelsText, AreRefusedModels}

-- the text that is written where a netlist was compiled from models: its own, or that of one that is merged from it and is
-- compiled from the models too
pub data IsCompiledText (models : List Model) (n : NetlistData) (merge : Bool) : List ℕ → Type 0 where
  plain : merge ≡ false → IsCompiledText models n merge (text_of n)
  merged : merge ≡ true → (m : NetlistData) → Merged n m → Compiled models m → IsCompiledText models n merge (text_of m)

-- what `compile` replies to models, where gates are merged or not: a status and a text. The choice of gates is free, so the
-- text of any netlist that is compiled from the models is right, and that of any that is merged from such a one
pub data IsModelsReply (models : List Model) (merge : Bool) : ℕ → List ℕ → Type 0 where
  -- they are too large
  too_large : (fault : CompileFault) → fault ≢ Memory → IsCompileFault models fault → IsModelsReply models merge 3 (compile_line fault)
  -- a netlist is compiled from them, and this is written of it
  compiled : CanBeCompiled models → (n : NetlistData) → Compiled models n → (text : List ℕ) → IsCompiledText models n merge text → IsModelsReply models merge 0 text

-- what `compile` replies to a file, where gates are merged or not
abbrev pub IsCompiledFile : Option Files → List ℕ → Bool → ℕ → List ℕ → Type 0
IsCompiledFile told file merge = IsReadReply told file AreRefusedModels AreModelsText (λ models. IsModelsReply models merge)
