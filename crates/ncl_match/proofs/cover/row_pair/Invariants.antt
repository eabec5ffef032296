use Rattle.ncl_match.proofs.PairLaws.{HasFunction, Turned, both_tables, functions_at, gathered, row_function, suc, take}
use Rattle.ncl_match.proofs.cover.row_pair.Given as goal

-- the conjunctions so far have been made, and the last is at hand
abbrev pub invariant-loop-place : goal.invariant-loop-place
invariant-loop-place g l =
    let old = g.P.Space.meaning l.fn.space in
    let fs = functions_at old l.ins in
    record {
      turned : Turned old (g.P.Space.meaning l.space) (gathered (λ i. both_tables old.width (row_function fs (take (suc i) l.lits))) l.place);
      has : HasFunction (g.P.Space.meaning l.space) l.matched (row_function fs (take l.place l.lits));
    }
