use Rattle.ncl_reader.proofs.Terms.{ℕ, ◌<◌, slice_index, Covers}
use Rattle.ncl_reader.proofs.kept_bits.covers_one.Given as goal

-- none so far is one
abbrev pub invariant-loop-number : goal.invariant-loop-number
invariant-loop-number l = (i : ℕ) → i < l.number-index → Covers l.span (slice_index l.numbers i) → ⊥
