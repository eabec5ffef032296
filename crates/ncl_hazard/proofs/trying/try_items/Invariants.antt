use Rattle.ncl_hazard.proofs.Terms.{IsFor, happened, meaning, take, tried, ◌++◌, ◌≡◌}
use Rattle.ncl_hazard.proofs.trying.try_items.Given as goal

-- the first items were tried
abbrev pub invariant-loop-item : goal.invariant-loop-item
invariant-loop-item l =
    IsFor l.pipeline l.state × (meaning l.state ≡ tried l.pipeline (meaning l.fn.state) (take l.item-index l.items))
    × (l.run.items ≡ l.fn.run.items ++ happened l.pipeline (meaning l.fn.state) (take l.item-index l.items))
