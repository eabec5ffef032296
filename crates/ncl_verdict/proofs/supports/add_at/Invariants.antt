use Rattle.ncl_verdict.proofs.Terms.{All, IsPart, get_or, length, mask_at, ℕ, ◌<◌, ◌≡◌, ◌≤◌}
use Rattle.ncl_verdict.proofs.supports.add_at.Given as goal

-- the mask is a part of those at the places so far, and places that are not among these are as they were
abbrev pub invariant-loop-place : goal.invariant-loop-place
invariant-loop-place l = record {
  many : length l.masks ≡ length l.fn.masks;
  grown : (place : ℕ) → IsPart (mask_at l.fn.masks place) (mask_at l.masks place);
  added : (k : ℕ) → k < l.place-index → IsPart l.mask (mask_at l.masks (get_or l.places k 0));
  others : (from : ℕ) → All (λ place. place < from) l.places → (place : ℕ) → from ≤ place → mask_at l.masks place ≡ mask_at l.fn.masks place;
}
