-- What the program keeps of a state of the firing machine, and the state that it means.
use Rattle.std.specs.Prelude.{◌≡◌, ℕ, ◌+◌, ◌<◌, Bool, false, List, length, slice_index_or}
use Rattle.ncl_shape.specs.declared.rails.Rails.{Rails}
use Rattle.ncl_shape.specs.declared.item.Item.{Item}
use Rattle.ncl_shape.specs.declared.item.Item.TheVariants.{Cell as Fire, Raise, Lower, Take, Ready}
use Rattle.ncl_shape.specs.Held.{data_banks}
use Rattle.ncl_shape.specs.Nets.{Nets}
use Rattle.ncl_shape.specs.Pipeline.{PipelineData}
use Rattle.ncl_machine.specs.declared.pair.Pair.{Pair}
use Rattle.ncl_machine.specs.State.{State}

-- the rails of the pipeline's inputs and outputs and its two acknowledges, how many words are due, and of the state what
-- `State` has, with the values of the nets as a list
pub record Held : Type 0 where
  pub inputs : List Rails
  pub outputs : List Rails
  pub ki : ℕ
  pub ko : ℕ
  pub offered : List (List Bool)
  pub due : ℕ
  pub values : List Bool
  pub done : ℕ
  pub falling : Bool
  pub delivered : List Pair

-- the value of each net; past the last net all is low
abbrev pub net_values : List Bool → Nets
net_values values net = slice_index_or values net false

-- the state that is meant
abbrev pub meaning : Held → State
meaning h = record { offered = h.offered; value = net_values h.values; done = h.done; falling = h.falling; delivered = h.delivered }

-- it was made for this pipeline
pub record IsFor (p : PipelineData) (h : Held) : Type 0 where
  pub inputs : h.inputs ≡ p.inputs
  pub outputs : h.outputs ≡ p.outputs
  pub ki : h.ki ≡ p.ki
  pub ko : h.ko ≡ p.ko
  pub due : h.due ≡ data_banks p.banks + length h.offered
  pub values : length h.values ≡ length p.netlist.nets

-- the cell, or the bit, is one of the pipeline
abbrev pub InRange : PipelineData → Item → Type 0
InRange p (Fire cell) = cell.0 < length p.netlist.cells
InRange p (Raise bit) = bit < length p.inputs
InRange p (Lower bit) = bit < length p.inputs
InRange p Take = Unit {0}
InRange p Ready = Unit {0}
