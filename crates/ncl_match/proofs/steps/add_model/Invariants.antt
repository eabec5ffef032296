use Rattle.ncl_match.proofs.Terms.{AreAdded, get, nat_cmp, take}
use Rattle.ncl_match.proofs.steps.add_model.Given as goal

-- the covers so far have their steps
abbrev pub invariant-loop-place : goal.invariant-loop-place
invariant-loop-place l =
    AreAdded l.inputs l.fn.steps.items l.steps.items l.model l.ins (get nat_cmp l.numbers) (take l.place-index l.place-items)
