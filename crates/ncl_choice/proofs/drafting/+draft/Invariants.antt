use Rattle.ncl_choice.proofs.drafting.+draft.Given as goal

abbrev pub decreases-draft : goal.decreases-draft
decreases-draft l = l.fuel
