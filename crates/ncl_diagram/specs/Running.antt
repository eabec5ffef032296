-- An operation on the nodes of a diagram, and what its calls leave.
use Rattle.std.specs.Prelude.{◌≡◌, ◌≤◌, List, length}
use Rattle.ncl_space.specs.declared.space.Ref.{Ref}
use Rattle.ncl_diagram.specs.declared.answers.Answers.{Answers}
use Rattle.ncl_diagram.specs.declared.memo.Key.{Key}
use Rattle.ncl_diagram.specs.declared.nodes.Node.{Node}
use Rattle.ncl_diagram.specs.declared.operation.Engine.{Engine}
use Rattle.ncl_diagram.specs.declared.operation.Operation.{Operation}
use Rattle.ncl_diagram.specs.Finding.{AddsBeads, IsAnswer, Lacks}
use Rattle.ncl_diagram.specs.Kept.{AreKept}
use Rattle.ncl_diagram.specs.Memo.{AreAnswers, AreLarger, KeepsKeys, Settles, places, size_of}
use Rattle.ncl_diagram.specs.Nodes.{Grown, IsCanonical}
use Rattle.ncl_diagram.specs.Operands.{There}
use Rattle.ncl_diagram.specs.Steps.{AddsKeys}

-- the nodes are a reduced ordered diagram within the limit, and the answers that are kept are true
pub record IsSound (o : Operation) (nodes : List Node) (answers : Answers) : Type 0 where
  pub canonical : IsCanonical o.width nodes
  pub few : length nodes ≤ o.limit
  pub kept : AreKept o.width nodes answers

-- a call of these operands may begin: they are there, what the memo has is true, and those of calls under way are larger
pub record MayRun (o : Operation) (e : Engine) (key : Key) : Type 0 where
  pub width : o.width ≤ 128
  pub sound : IsSound o e.nodes e.answers
  pub there : There e.nodes (places key)
  pub memo : AreAnswers o.width o.kind e.nodes e.memo.keys e.memo.found.items
  pub larger : AreLarger (size_of key) e.memo.keys e.memo.found.items

-- whatever it answers, all stays sound, the nodes that came have beads of the gate's table, and the keys that came are reached
-- from the operands
pub record Runs (o : Operation) (old new : Engine) (key : Key) : Type 0 where
  pub sound : IsSound o new.nodes new.answers
  pub grown : Grown old.nodes new.nodes
  pub adds : AddsBeads o.width o.kind (length old.nodes) (length new.nodes) new.nodes (places key)
  pub reached : AddsKeys new.nodes old.memo.keys new.memo.keys key

-- an answer is one, what the memo has is true, and no key without an answer has come
pub record Finds (o : Operation) (old new : Engine) (key : Key) (r : Ref) : Type 0 where
  pub answer : IsAnswer o.width o.kind new.nodes (places key) r.place
  pub memo : AreAnswers o.width o.kind new.nodes new.memo.keys new.memo.found.items
  pub keys : KeepsKeys old.memo.keys new.memo.keys
  pub settles : Settles old.memo.keys old.memo.found.items new.memo.keys new.memo.found.items

-- there are as many nodes as the limit, and some bead of the gate's table is no node's
pub record FindsFull (o : Operation) (new : Engine) (key : Key) : Type 0 where
  pub full : length new.nodes ≡ o.limit
  pub lacks : Lacks o.width o.kind new.nodes (places key)
