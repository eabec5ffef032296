use Rattle.ncl_machine.proofs.Terms.{CellId, Contains, Fire, Held, IfSome, IsFor, Item, Lower, PipelineData, Raise, ap, current_word, enabled, length, meaning, net_of_step, rail_nets, step, subst, sym, true, ℕ, ◌<◌, ◌∙◌, ◌≡◌}
use Rattle.ncl_machine.proofs.ProgramEnds.{AreProgramEnds, program_ends}
use Rattle.ncl_machine.proofs.ProgramSteps.{cell_apart, cell_done, flipped, raise_named, lower_named}
use Rattle.ncl_machine.proofs.state.State.fire.Goals as goal

-- an item that can move, by what it is and by its net, which is one of the pipeline
module _ (p : PipelineData) (h : Held) (made : IsFor p h) (net : ℕ) (within : net < length p.netlist.nets) (item : Item) (can : enabled p (meaning h) item ≡ true) (is : IfSome (net_of_step p (meaning h) item) (λ n. net ≡ n)) where
  inside : net < length h.values
  inside = subst (λ n. net < n) (sym made.values) within

  moves : (other : Item) → item ≡ other → (enabled p (meaning h) other ≡ true) × IfSome (net_of_step p (meaning h) other) (λ n. net ≡ n)
  moves other same = (subst (λ i. enabled p (meaning h) i ≡ true) same can, subst (λ i. IfSome (net_of_step p (meaning h) i) (λ n. net ≡ n)) same is)

  apart : AreProgramEnds p → (cell : CellId) → item ≡ Fire cell → Contains (rail_nets h.inputs) net → ⊥
  apart ends cell same = let m = moves (Fire cell) same in cell_apart p h made net inside ends cell m.0 m.1

  raised : (bit : ℕ) → item ≡ Raise bit → Contains (current_word h) net
  raised bit same = let m = moves (Raise bit) same in raise_named p h made net inside bit m.0 m.1

  lowered : (bit : ℕ) → item ≡ Lower bit → Contains (current_word h) net
  lowered bit same = let m = moves (Lower bit) same in lower_named p h made net inside bit m.0 m.1

  fired : (cell : CellId) → item ≡ Fire cell → meaning (flipped h net) ≡ step p (meaning h) item
  fired cell same = let m = moves (Fire cell) same in cell_done p h made net inside cell m.0 m.1 ∙ sym (ap (step p (meaning h)) same)

pub flip-requires-clause-apart : goal.flip-requires-clause-apart
flip-requires-clause-apart c = apart c.args.pipeline.now c.args.self.now c.requires.made c.net-net.result.0 c.net-net.ensures.within c.args.item c.requires.can c.net-net.ensures.net (program_ends c.args.pipeline.now c.facts.ensures) c.in-Cell.field-0 c.in-Cell.is

pub raise-requires-clause-named : goal.raise-requires-clause-named
raise-requires-clause-named c = raised c.args.pipeline.now c.args.self.now c.requires.made c.net-net.result.0 c.net-net.ensures.within c.args.item c.requires.can c.net-net.ensures.net c.in-Raise.field-0 c.in-Raise.is

pub lower-requires-clause-named : goal.lower-requires-clause-named
lower-requires-clause-named c = lowered c.args.pipeline.now c.args.self.now c.requires.made c.net-net.result.0 c.net-net.ensures.within c.args.item c.requires.can c.net-net.ensures.net c.in-Lower.field-0 c.in-Lower.is

pub flip-requires-in-Ready-clause-apart : goal.flip-requires-in-Ready-clause-apart
flip-requires-in-Ready-clause-apart c =
    let p = c.args.pipeline.now in
    let h = c.args.self.now in
    let is : c.net-net.result.0 ≡ p.ki = subst (λ item. IfSome (net_of_step p (meaning h) item) (λ n. c.net-net.result.0 ≡ n)) c.in-Ready.is c.net-net.ensures.net in
    λ some. (program_ends p c.facts.ensures).ki_apart (subst (λ net. Contains (rail_nets p.inputs) net) is (subst (λ bits. Contains (rail_nets bits) c.net-net.result.0) c.requires.made.inputs some))

pub returns-in-Cell-clause-done : goal.returns-in-Cell-clause-done
returns-in-Cell-clause-done c =
    ap meaning c.flip.ensures
    ∙ fired c.args.pipeline.now c.args.self.now c.requires.made c.net-net.result.0 c.net-net.ensures.within c.args.item c.requires.can c.net-net.ensures.net c.in-Cell.field-0 c.in-Cell.is
