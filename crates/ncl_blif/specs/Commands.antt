-- The fields of the commands that are read (Berkeley BLIF).
use Rattle.std.specs.Prelude.{ℕ, List, codes}
use Rattle.ncl_blif.specs.declared.command.Command.{Command}
use Rattle.ncl_blif.specs.declared.command.Command.TheVariants.{Model, Inputs, Outputs, Names, End}

-- the field of a command
abbrev pub field_of : Command → List ℕ
field_of Model = codes ".model"
field_of Inputs = codes ".inputs"
field_of Outputs = codes ".outputs"
field_of Names = codes ".names"
field_of End = codes ".end"
