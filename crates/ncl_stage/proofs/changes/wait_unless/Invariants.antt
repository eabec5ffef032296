use Rattle.ncl_stage.proofs.Terms.{Contains, false, get_or, length, take, true, ℕ, ◌≡◌}
use Rattle.ncl_stage.proofs.changes.wait_unless.Given as goal

-- the readers so far are marked, and what was marked still is
abbrev pub invariant-loop-reader : goal.invariant-loop-reader
invariant-loop-reader l = record {
  many : length l.marks ≡ length l.fn.marks;
  kept : (place : ℕ) → get_or l.marks place true ≡ false → get_or l.fn.marks place true ≡ false;
  readers : (reader : ℕ) → Contains (take l.reader-index l.readers) reader → get_or l.marks reader true ≡ true;
}
