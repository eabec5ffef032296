-- A stage at work: the sets of high nets that it goes through while a word comes in, and while NULL does.
use Rattle.std.specs.Prelude.{◌≡◌, ℕ, true, false, Bool, List, Contains}
use Rattle.ncl_gates.specs.Gate.{next_of}
use Rattle.ncl_shape.specs.declared.stage.StageCell.{StageCell}
use Rattle.ncl_shape.specs.Nets.{Nets, with_net}
use Rattle.ncl_shape.specs.Stage.{StageData, named_rails, rail_nets}
use Rattle.ncl_shape.specs.Closure.{pin_values}
use Rattle.ncl_faults.specs.declared.variant.Variant.TheVariants.{Base}
use Rattle.ncl_faults.specs.Values.{val}
use Rattle.ncl_machine.specs.State.{no_nets}
use Rattle.ncl_machine.specs.Steps.{differ}

-- the next value of a gate cell of a stage
abbrev pub next_of_gate : Nets → StageCell → Bool
next_of_gate v c = next_of c.kind (pin_values v c.ins.items) (v c.out.0)

-- the gate cell is excited
abbrev pub IsExcited : Nets → StageCell → Type 0
IsExcited v c = differ (next_of_gate v c) (v c.out.0) ≡ true

-- the rising states at a word: from nothing high, rails of the word rise and excited cells fire
pub data IsRising (s : StageData) (word : List Bool) : Nets → Type 0 where
  null : IsRising s word no_nets
  raise : {v : Nets} → (net : ℕ) → Contains (named_rails s.inputs word) net → IsRising s word v → IsRising s word (with_net v net true)
  fire : {v : Nets} → (c : StageCell) → Contains s.cells c → IsExcited v c → IsRising s word v → IsRising s word (with_net v c.out.0 (next_of_gate v c))

-- the falling states at a word: from its values, rails fall and excited cells fire
pub data IsFalling (s : StageData) (word : List Bool) : Nets → Type 0 where
  settled : IsFalling s word (val s word Base)
  lower : {v : Nets} → (net : ℕ) → Contains (rail_nets s.inputs) net → IsFalling s word v → IsFalling s word (with_net v net false)
  fire : {v : Nets} → (c : StageCell) → Contains s.cells c → IsExcited v c → IsFalling s word v → IsFalling s word (with_net v c.out.0 (next_of_gate v c))
