use Rattle.std.proofs.Common.{length, ◌-◌}
use Rattle.ncl_blif.proofs.Sections.{AreDrafted}
use Rattle.ncl_blif.proofs.draft.drafts_of.Given as goal

abbrev pub invariant-loop-at : goal.invariant-loop-at
invariant-loop-at l = AreDrafted l.parts l.at l.drafts.items

abbrev pub decreases-loop-at : goal.decreases-loop-at
decreases-loop-at l = length l.parts - l.at
