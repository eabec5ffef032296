use Rattle.ncl_blif.proofs.Terms.{[], arith, drop, drop_all, length, subst, take_rest, ◌≡◌, ◌≤◌}
use Rattle.ncl_blif.proofs.TextLines.{lines-first, lines-last}
use Rattle.ncl_blif.proofs.piece.first_line.Goals as goal

pub returns-then-end-text-clause-lines : goal.returns-then-end-text-clause-lines
returns-then-end-text-clause-lines c =
    rw (take_rest, c.without_return.ensures, c.place_of-end.ensures.place) (lines-first c.args.text.now (omega arith))

pub returns-else-end-text-clause-lines : goal.returns-else-end-text-clause-lines
returns-else-end-text-clause-lines c =
    let all : drop c.place_of-end.result c.args.text.now ≡ [] = drop_all c.place_of-end.result c.args.text.now c.if-end-text.false in
    rw (take_rest, all) (lines-last c.args.text.now c.requires (subst (λ n. length c.args.text.now ≤ n) c.place_of-end.ensures.place c.if-end-text.false))
