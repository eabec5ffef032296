use Rattle.ncl_verdict.proofs.Terms.{IsPart, get_or, length, mask_at, ℕ, ◌<◌, ◌≡◌}
use Rattle.ncl_verdict.proofs.Adding.{IsShown}
use Rattle.ncl_verdict.proofs.supports.add_outputs.Given as goal

-- at the rails of the outputs so far stand the masks of both
abbrev pub invariant-loop-pair : goal.invariant-loop-pair
invariant-loop-pair l = record {
  many : length l.reaches ≡ length l.masks;
  own : (place : ℕ) → IsPart (mask_at l.masks place) (mask_at l.reaches place);
  outputs : (k : ℕ) → k < l.pair-index → IsShown l.masks l.reaches (get_or l.outputs k (0, 0));
}
