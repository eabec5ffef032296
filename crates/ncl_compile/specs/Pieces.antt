-- What a compiled netlist is put together of, told by names: a bank before each stage, and one after the last.
use Rattle.std.specs.Prelude.{◌≡◌, ℕ, zero, suc, ◌+◌, ◌*◌, ◌≤◌, List, [], ◌++◌, Bool, length, codes, slice_get, slice_index, Option, None, Some}
use Rattle.std.specs.List.{flat_map}
use Rattle.ncl_blif.specs.declared.model.Model.{Model}
use Rattle.ncl_blif.specs.Meaning.{Gives, width_of}
use Rattle.ncl_netlist.specs.declared.parts.NamePair.{NamePair}
use Rattle.ncl_netlist.specs.declared.parts.Parts.{Parts}
use Rattle.ncl_network.specs.declared.network.Network.{Network}
use Rattle.ncl_network.specs.Network.{answer_of, weight_of_model}
use Rattle.ncl_decomp.specs.Split.{cost_of_network}
use Rattle.ncl_rails.specs.declared.StageParts.{StageParts}
use Rattle.ncl_rails.specs.StageParts.{AreStageParts}
use Rattle.ncl_bank.specs.declared.BankParts.{BankParts}
use Rattle.ncl_bank.specs.BankParts.{AreBankParts}
use Rattle.ncl_network.specs.Size.{widths_of}
use Rattle.ncl_compile.specs.Compiled.{answer_width}
use Rattle.ncl_compile.specs.Ports.{ports_for, input_pairs}
use Rattle.ncl_compile.specs.InnerNames.{bank_prefix, stage_prefix, inner_pairs, pairs_driven, root_name, request_name}

-- the parts of the stage that a model becomes between rails of these names: those of a network that gives its answers
pub record IsStageOfModel (model : Model) (ins : List NamePair) (prefix : List ℕ) (parts : StageParts) : Type 0 where
  pub network : Network
  pub inputs : network.inputs ≡ length model.inputs
  pub outputs : length network.outputs ≡ length model.outputs
  pub same : (word answer : List Bool) → Gives model word answer → answer ≡ answer_of network word
  pub cost : cost_of_network network ≤ 5 * weight_of_model model
  pub are : AreStageParts network ins prefix parts

-- the stages of models, counted from 0: that of each number lies between the bank of that number and the next
pub record AreStages (models : List Model) (stages : List StageParts) : Type 0 where
  pub as_many : length stages ≡ length models
  pub each : (k : ℕ) (model : Model) (stage : StageParts) → slice_get models k ≡ Some model → slice_get stages k ≡ Some stage → IsStageOfModel model (inner_pairs k (length model.inputs)) (stage_prefix k) stage

-- the pairs of names that a bank reads: the inputs, or the outputs of the stage before it
abbrev pub outputs_of : Option StageParts → List NamePair
outputs_of None = []
outputs_of (Some stage) = stage.outputs

abbrev pub pairs_read : ℕ → List StageParts → ℕ → List NamePair
pairs_read width stages zero = input_pairs width
pairs_read width stages (suc k) = outputs_of (slice_get stages k)

-- a bank of this number, where this is the number of the last, and of this width
abbrev pub IsBankBetween : List NamePair → ℕ → ℕ → ℕ → BankParts → Type 0
IsBankBetween ins last number width parts =
    AreBankParts ins (pairs_driven last number width) (request_name last number) (codes "rst") (root_name number) (bank_prefix number) parts

-- the banks, counted from 0
pub record AreBanks (models : List Model) (stages : List StageParts) (banks : List BankParts) : Type 0 where
  pub as_many : length banks ≡ length models + 1
  pub each : (k : ℕ) (bank : BankParts) → slice_get banks k ≡ Some bank → IsBankBetween (pairs_read (width_of models) stages k) (length models) k (slice_index (widths_of models) k) bank

-- the parts of a compiled netlist: all banks and then all stages, each in their order
pub record IsPutTogether (models : List Model) (parts : Parts) : Type 0 where
  pub stages : List StageParts
  pub banks : List BankParts
  pub are_stages : AreStages models stages
  pub are_banks : AreBanks models stages banks
  pub title : parts.«module» ≡ codes "top"
  pub ports : parts.ports ≡ ports_for (width_of models) (answer_width models)
  pub cells : parts.cells ≡ flat_map (λ (bank : BankParts). bank.cells) banks ++ flat_map (λ (stage : StageParts). stage.cells) stages
