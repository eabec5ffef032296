use Rattle.ncl_blif.proofs.Terms.{drop, unjoined_model, ◌-◌, ◌≡◌}
use Rattle.ncl_blif.proofs.reader.first_unjoined.Given as goal

-- the drafts from the one before on have the first that doesn't fit
abbrev pub invariant-loop-place : goal.invariant-loop-place
invariant-loop-place l = unjoined_model l.place (drop (l.place - 1) l.drafts) ≡ unjoined_model 1 l.drafts
