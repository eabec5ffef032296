-- A space of shared decision diagrams: its nodes, in the order in which they came.
use Rattle.std.specs.Prelude.{◌≡◌, ℕ, ◌+◌, ◌^◌, ◌<◌, ◌≤◌, Bool, true, false, List, [], ◌∷◌, length, take, Some, nat_lt, nat_le, Result, IfOk, OnOk, IsErrOf}
use Rattle.ncl_space.specs.declared.space.Ref.{Ref}
use Rattle.ncl_space.specs.declared.space.SpaceFault.{SpaceFault}
use Rattle.ncl_space.specs.declared.space.SpaceFault.TheVariants.{Full}
use Rattle.ncl_space.specs.Space.{Adds, Keeps, Makes, SpaceData, fits}
use Rattle.ncl_diagram.specs.declared.nodes.Node.{Node}
use Rattle.ncl_diagram.specs.Nodes.{IsCanonical, table_from}
use Rattle.ncl_diagram.specs.Holding.{held_of}

-- the number of bits of a word, the most nodes that there may be, and the nodes
pub record DiagramData : Type 0 where
  pub width : ℕ
  pub limit : ℕ
  pub nodes : List Node

-- the space of these nodes: the first two places are the constants, each other one is a node, and a mark is
-- a number of nodes
abbrev pub diagram_space : DiagramData → SpaceData
diagram_space d = record {
  width = d.width;
  limit = Some d.limit;
  live = λ r. nat_lt r.place (length d.nodes + 2);
  table = λ r. table_from d.nodes d.width 0 r.place;
  held = held_of d.width d.nodes;
  stands = λ m. nat_le m.count (length d.nodes);
  live_at = λ m r. nat_lt r.place (m.count + 2);
  held_at = λ m. held_of d.width (take m.count d.nodes);
}

-- the nodes are those of a reduced ordered diagram without doubles, no more than the limit, which has 32
-- bits
pub record IsDiagram (n limit : ℕ) (nodes : List Node) : Type 0 where
  pub some_bit : 1 ≤ n
  pub few_bits : n ≤ 128
  pub canonical : IsCanonical n nodes
  pub few : length nodes ≤ limit
  pub small : limit < 2 ^ 32

-- what a call leaves that was asked for a function of some table, as a space says it
pub record Applies (old new : SpaceData) (made : List Bool) (result : Result Ref SpaceFault) : Type 0 where
  pub answer : IfOk result (λ r. Makes old new r made)
  pub kept : Keeps old new
  pub adds : Adds old new (made ∷ [])
  pub full : IsErrOf result Full → fits old (made ∷ []) ≡ false
  pub fit : OnOk result (fits old (made ∷ []) ≡ true)
