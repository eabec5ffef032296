use Rattle.std.proofs.Common.{◌≡◌, [], map, replicate}
use Rattle.ncl_shape.proofs.bank_lists.empty_lists.Given as goal

abbrev pub invariant-loop : goal.invariant-loop
invariant-loop g l = map (λ l. l.items) l.lists.items ≡ replicate l.counter []
