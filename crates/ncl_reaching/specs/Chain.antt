-- Stages one after another as one stage: each rail of a bank between two of them is the output of a gate that follows the
-- output that it takes.
use Rattle.std.specs.Prelude.{◌≡◌, ℕ, zero, suc, List, [], ◌∷◌, ◌++◌, map, length, Option, None, Some, slice_get}
use Rattle.ncl_base.specs.Members.{Member}
use Rattle.ncl_gates.specs.declared.kind.Kind.TheVariants.{Th22}
use Rattle.ncl_netlist.specs.declared.ids.NetId.{NetId}
use Rattle.ncl_shape.specs.declared.rails.Rails.{Rails}
use Rattle.ncl_shape.specs.declared.stage.StageCell.{StageCell}
use Rattle.ncl_shape.specs.Stage.{StageData, IsStage, nets_of, out_of}
use Rattle.ncl_shape.specs.Pipeline.{PipelineData}

-- a gate both of whose inputs are one net, so that it is high where that net is; it goes by the number of the net that it drives
abbrev pub follower : NetId → NetId → StageCell
follower taken rail = record { cell = record { 0 = rail.0 }; kind = Th22; ins = record { items = taken ∷ taken ∷ [] }; out = rail }

-- the rails of some bits follow those of others
abbrev pub followers : List Rails → List Rails → List StageCell
followers [] rails = []
followers (o ∷ outputs) [] = []
followers (o ∷ outputs) (r ∷ rails) = follower o.zero r.zero ∷ follower o.one r.one ∷ followers outputs rails

-- a gate goes by the number of the net that it drives
abbrev pub by_net : StageCell → StageCell
by_net g = record g { cell = record { 0 = g.out.0 } }

-- a stage, and behind it another, whose inputs follow the outputs of the first
abbrev pub followed : StageData → StageData → StageData
followed front back = record { number = back.number; inputs = front.inputs; cells = front.cells ++ (followers front.outputs back.inputs ++ map by_net back.cells); outputs = back.outputs }

abbrev pub followed_by : StageData → Option StageData → StageData
followed_by front None = front
followed_by front (Some back) = followed front back

-- the first so many stages of a pipeline as one, from the source on
abbrev pub chain : PipelineData → ℕ → StageData
chain p zero = record { number = 0; inputs = p.inputs; cells = []; outputs = p.inputs }
chain p (suc k) = followed_by (chain p k) (slice_get p.stages k)

-- a stage can stand behind another, whose gates go by their nets: it takes as many bits as the other makes, and has none of
-- its nets
pub record CanFollow (front back : StageData) : Type 0 where
  pub is_front : IsStage front
  pub is_back : IsStage back
  pub many : length front.outputs ≡ length back.inputs
  pub apart : (net : ℕ) → Member net (nets_of front.inputs front.cells) → Member net (nets_of back.inputs back.cells) → ⊥
  pub by_nets : (g : StageCell) → Member g front.cells → g.cell.0 ≡ out_of g
