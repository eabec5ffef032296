use Rattle.ncl_stage.proofs.Terms.{Making, map, pair_table, take}
use Rattle.ncl_stage.proofs.outputs.pair_refs.Given as goal

-- the functions of the pairs so far have been made
abbrev pub invariant-loop-pair : goal.invariant-loop-pair
invariant-loop-pair g l =
    let old = g.P.Space.meaning l.fn.space in
    Making old (g.P.Space.meaning l.space) l.made.items (map (pair_table old.width l.kind (map old.table l.refs)) (take l.pair-index l.pairs))
