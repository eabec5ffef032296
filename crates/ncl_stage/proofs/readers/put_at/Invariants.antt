use Rattle.ncl_stage.proofs.Terms.{Contains, Grows, items_at, take, ℕ, ◌<◌}
use Rattle.ncl_stage.proofs.readers.put_at.Given as goal

-- the nets so far have the reader
abbrev pub invariant-loop-net : goal.invariant-loop-net
invariant-loop-net l = record {
  grows : (count : ℕ) → l.reader < count → Grows count l.initial.readers l.readers;
  has : (net : ℕ) → Contains (take l.net-index l.nets) net → Contains (items_at l.readers net) l.reader;
}
