use Rattle.ncl_stage.proofs.Terms.{Contains, [], get_or, length, map, items_at, ℕ, ◌+◌, ◌-◌, ◌<◌, ◌≡◌}
use Rattle.ncl_stage.proofs.readers.readers_of.Given as goal

-- the cells so far are readers of what they read
abbrev pub invariant-loop-places : goal.invariant-loop-places
invariant-loop-places l = record {
  many : length l.readers ≡ l.nets;
  next : l.reader ≡ (l.nets - length l.pins) + l.places-index;
  each : (cell net : ℕ) → cell < l.places-index → Contains (get_or (map (λ p. p.items) l.pins) cell []) net → Contains (items_at l.readers net) ((l.nets - length l.pins) + cell);
  within : (net place : ℕ) → Contains (items_at l.readers net) place → place < l.nets;
}
