use Rattle.ncl_stage.proofs.Terms.{AreMet, IsDone, List, [], flat_map, map, take, with_bits, ℕ, ◌++◌, ◌≡◌}
use Rattle.ncl_stage.proofs.walk.Walk.from_pairs.Given as goal

-- the pairs so far have been walked from, and nothing waits
abbrev pub invariant-loop-pair : goal.invariant-loop-pair
invariant-loop-pair l = record {
  idle : l.self.waiting.items ≡ [];
  done : IsDone l.bits (map (λ p. p.items) l.pins) l.self.entered.items l.self.found.keys;
  found : (met : ℕ → List ℕ) → AreMet l.bits (map (λ p. p.items) l.pins) met → l.self.found.keys ≡ with_bits [] (flat_map (λ (pair : ℕ × ℕ). met pair.0 ++ met pair.1) (take l.pair-index l.pairs));
}
