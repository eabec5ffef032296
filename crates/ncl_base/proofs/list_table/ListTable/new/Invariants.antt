use Rattle.ncl_base.proofs.Terms.{[], map, replicate, ◌≡◌}
use Rattle.ncl_base.proofs.list_table.ListTable.new.Given as goal

abbrev pub invariant-loop : goal.invariant-loop
invariant-loop g l = map (λ l. l.items) l.lists.items ≡ replicate l.counter []
