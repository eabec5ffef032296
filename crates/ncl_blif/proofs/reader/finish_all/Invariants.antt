use Rattle.ncl_blif.proofs.Terms.{All, IsFaultless, length, map, numbered_model, take, ◌≡◌}
use Rattle.ncl_blif.proofs.reader.finish_all.Given as goal

-- the drafts so far have no fault, and are models
abbrev pub invariant-loop-draft : goal.invariant-loop-draft
invariant-loop-draft l = record {
  counted : l.number ≡ length l.yielded;
  faultless : All IsFaultless (take l.number l.fn.drafts.items);
  read : l.models.items ≡ map numbered_model (take l.number l.fn.drafts.items);
}
