use Rattle.ncl_blif.proofs.Terms.{ap, eqb, is_continued, ne_eqb, sym, ◌∙◌}
use Rattle.ncl_blif.proofs.TextLines.{continued-end}
use Rattle.ncl_blif.proofs.piece.without_mark.Goals as goal

pub returns-then-last-eq92-clause-mark : goal.returns-then-last-eq92-clause-mark
returns-then-last-eq92-clause-mark c =
    sym (ap is_continued c.in-Some.ensures.cases.0 ∙ continued-end c.in-Some.front.now c.in-Some.last.now ∙ ap (λ b. eqb b 92) c.if-last-eq92.true)

pub returns-else-last-eq92-clause-mark : goal.returns-else-last-eq92-clause-mark
returns-else-last-eq92-clause-mark c =
    sym (ap is_continued c.in-Some.ensures.cases.0 ∙ continued-end c.in-Some.front.now c.in-Some.last.now ∙ ne_eqb c.in-Some.last.now 92 c.if-last-eq92.false)
