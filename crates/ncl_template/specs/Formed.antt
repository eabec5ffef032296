-- How the gates of a node stand among those that were added before.
use Rattle.std.specs.Prelude.{◌≡◌, ℕ, ◌≤◌, List, ◌++◌, Bool, All, Contains, length, map}
use Rattle.ncl_gates.specs.Gate.{arity_of}
use Rattle.ncl_shape.specs.declared.rails.Rails.{Rails}
use Rattle.ncl_shape.specs.declared.stage.StageCell.{StageCell}
use Rattle.ncl_shape.specs.Stage.{IsInOrder, out_of}
use Rattle.ncl_template.specs.Template.{IsTemplate}

-- gates over input pairs: each has a net on each input pin, and reads only the pairs and gates before it; the output
-- pair is driven by them
pub record IsFormed (ins : List Rails) (gates : List StageCell) (out : Rails) : Type 0 where
  pub arities : All (λ (c : StageCell). length c.ins.items ≡ arity_of c.kind) gates
  pub in_order : IsInOrder ins gates
  pub zero_driven : Contains (map out_of gates) out.zero.0
  pub one_driven : Contains (map out_of gates) out.one.0

-- a template of a function over input pairs that waits for some of them is added, with this output pair and at most so
-- many gates
pub record AddsTemplate (function : List Bool → Bool) (ins waits : List Rails) (most : ℕ) (before after : List StageCell) (out : Rails) : Type 0 where
  pub made : List StageCell
  pub added : after ≡ before ++ made
  pub template : IsTemplate function ins waits made out
  pub formed : IsFormed ins made out
  pub few : length made ≤ most
