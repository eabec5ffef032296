use Rattle.ncl_blif.specs.Body.{said_by, AreDriversKept}
use Rattle.ncl_blif.proofs.PartSteps.{AreTaken}
use Rattle.ncl_blif.proofs.draft.Draft.of_parts.Given as goal

abbrev pub invariant-loop-part : goal.invariant-loop-part
invariant-loop-part l = record {
  kept : AreDriversKept l.body;
  taken : AreTaken l.parts l.part-index (said_by l.body) l.has_ended;
}
