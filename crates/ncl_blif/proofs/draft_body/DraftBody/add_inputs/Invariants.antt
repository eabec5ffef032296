use Rattle.ncl_blif.proofs.Terms.{AreDriversKept, map, said_by, take, ◌++◌, ◌≡◌}
use Rattle.ncl_blif.proofs.BodySteps.{with_inputs}
use Rattle.ncl_blif.proofs.draft_body.DraftBody.add_inputs.Given as goal

abbrev pub invariant-loop-name : goal.invariant-loop-name
invariant-loop-name l = record {
  kept : AreDriversKept l.self;
  said : said_by l.self ≡ with_inputs (said_by l.initial.self) ((said_by l.initial.self).inputs ++ map (λ name. name.now) (take l.name-index l.names));
}
