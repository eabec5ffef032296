use Rattle.ncl_shape.proofs.Terms.{MatchOption, NetId, NetlistData, Option, Relates, Relation, subst, sym, ℕ}
use Rattle.ncl_shape.proofs.only_nets.bank_of.Goals as goal

-- what is told of a net by a relation
abbrev Tells : NetlistData → ℕ → Option NetId → Relation → Type 0
Tells n net found relation = MatchOption found ((bank : ℕ) → Relates n relation bank net → ⊥) (λ bank. Relates n relation bank.0 net)

pub returns-in-Follower : goal.returns-in-Follower
returns-in-Follower c = subst (Tells c.args.origins.now.netlist c.args.net.0 c.bank_before.result) (sym c.in-Follower.is) c.bank_before.ensures

pub returns-in-Root : goal.returns-in-Root
returns-in-Root c = subst (Tells c.args.origins.now.netlist c.args.net.0 c.bank_of_root.result) (sym c.in-Root.is) c.bank_of_root.ensures
