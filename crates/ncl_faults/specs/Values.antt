-- The values of a stage's nets at a word of its inputs, under a variant.
use Rattle.std.specs.Prelude.{Bool, false, not, ◌||◌, ◌&&◌, ◌==◌, List, length, Option, Some, None, slice_get}
use Rattle.ncl_gates.specs.Gate.{set_of}
use Rattle.ncl_shape.specs.declared.rails.Rails.{Rails}
use Rattle.ncl_shape.specs.declared.stage.StageCell.{StageCell}
use Rattle.ncl_shape.specs.Nets.{Nets, among, rounds}
use Rattle.ncl_shape.specs.Stage.{StageData, named_rails, out_of}
use Rattle.ncl_shape.specs.Closure.{pin_values}
use Rattle.ncl_faults.specs.declared.variant.Variant.{Variant}
use Rattle.ncl_faults.specs.declared.variant.Variant.TheVariants.{Base, Bit, Cell}

-- both nets of a bit; none where there is no such bit
abbrev pub both_rails : Option Rails → Nets
both_rails None net = false
both_rails (Some r) net = (net == r.zero.0) || (net == r.one.0)

-- the output net of a cell; none where there is no such cell
abbrev pub output_net : Option StageCell → Nets
output_net None net = false
output_net (Some c) net = net == c.out.0

-- the nets that a variant keeps low
abbrev pub kept_low : StageData → Variant → Nets
kept_low s Base net = false
kept_low s (Bit bit) net = both_rails (slice_get s.inputs bit) net
kept_low s (Cell cell) net = output_net (slice_get s.cells cell) net

-- the set function of the cell holds at the values
abbrev pub holds : Nets → StageCell → Bool
holds v c = set_of c.kind (pin_values v c.ins.items)

-- where a net is kept low nothing rises
abbrev pub rises : Nets → Nets → StageCell → Bool
rises low v c = not (low c.out.0) && holds v c

-- at first the rails of the word are high and all else is low
abbrev pub start : StageData → Nets → List Bool → Nets
start s low word net = among (named_rails s.inputs word) net && not (low net)

-- the values of the stage at the word: cells raise their outputs, in as many rounds as there are cells
abbrev pub val : StageData → List Bool → Variant → Nets
val s word variant =
    let low : Nets = kept_low s variant in
    rounds out_of (rises low) s.cells (length s.cells) (start s low word)
