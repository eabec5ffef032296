-- The text of a pipeline, and what is told of bytes that are the text of none.
use Rattle.std.specs.Prelude.{◌≡◌, ◌≢◌, ℕ, ◌<◌, ◌≤◌, List, length, codes}
use Rattle.ncl_base.specs.declared.source.TheConstants.{MOST_BYTES}
use Rattle.ncl_netlist.specs.declared.parts.Parts.{Parts}
use Rattle.ncl_netlist.specs.declared.build_fault.BuildFault.{BuildFault}
use Rattle.ncl_netlist.specs.declared.build_fault.BuildFault.TheVariants as build
use Rattle.ncl_netlist.specs.Netlist.{NetlistData, IsNetlist}
use Rattle.ncl_netlist.specs.Parts.{netlist_of}
use Rattle.ncl_netlist.specs.Faults.{IsFaultless, IsFaultOf}
use Rattle.ncl_reader.specs.declared.net_fault.NetFault.{NetFault}
use Rattle.ncl_reader.specs.declared.net_fault.NetFault.TheVariants.{Build}
use Rattle.ncl_reader.specs.Reads.{Reads, IsRefused}
use Rattle.ncl_shape.specs.declared.fault.ShapeFault.{ShapeFault}
use Rattle.ncl_shape.specs.Pipeline.{PipelineData}
use Rattle.ncl_shape.specs.Shape.{Shape, Broken}
use Rattle.ncl_lines.specs.Line.{line}
use Rattle.ncl_lines.specs.NetText.{net_line}
use Rattle.ncl_lines.specs.ShapeText.{shape_line}

-- the bytes are the text of this netlist: they are few enough to be read, and say parts that make it
pub record IsNetlistText (bytes : List ℕ) (n : NetlistData) : Type 0 where
  pub few : length bytes ≤ MOST_BYTES
  pub parts : Parts
  pub reads : Reads bytes parts
  pub builds : IsFaultless parts
  pub netlist : n ≡ netlist_of parts

-- the bytes are the text of a netlist that has the shape of this pipeline
pub record IsPipelineText (bytes : List ℕ) (p : PipelineData) : Type 0 where
  pub text : IsNetlistText bytes p.netlist
  pub shape : Shape p.netlist p

-- the netlist has no shape, and this line tells the first rule that it breaks
pub record IsShapeless (n : NetlistData) (text : List ℕ) : Type 0 where
  pub is_netlist : IsNetlist n
  pub fault : ShapeFault
  pub broken : Broken n fault
  pub told : text ≡ shape_line n fault

-- the bytes are the text of no pipeline, and this line tells why
pub data IsRefusedText (bytes : List ℕ) : List ℕ → Type 0 where
  -- a file has at most 16,777,216 bytes
  too_long : MOST_BYTES < length bytes → IsRefusedText bytes (line (codes "netlist: too long"))
  -- the text is refused at its first token that breaks
  unread : length bytes ≤ MOST_BYTES → (fault : NetFault) → IsRefused bytes fault → IsRefusedText bytes (net_line fault)
  -- the text says parts that are no netlist
  unbuilt : length bytes ≤ MOST_BYTES → (parts : Parts) → Reads bytes parts → (fault : BuildFault) → fault ≢ build.Memory → IsFaultOf parts fault → IsRefusedText bytes (net_line (Build fault))
  -- the text says a netlist that has no shape
  shapeless : (n : NetlistData) → IsNetlistText bytes n → (text : List ℕ) → IsShapeless n text → IsRefusedText bytes text
