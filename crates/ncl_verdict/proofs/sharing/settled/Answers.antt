use Rattle.ncl_verdict.proofs.Terms.{Base, IfSome, Some, arith, at_place, false, get_or, said_at, subst, sym, true, ℕ, ◌<◌, ◌∙◌, ◌≡◌}
use Rattle.ncl_verdict.proofs.InSpaceLaws.{first-none_at, first-some_at}
use Rattle.ncl_verdict.proofs.Parts.{place-variant, place-within, silent-first}
use Rattle.ncl_verdict.proofs.sharing.settled.Goals as goal

pub returns-then-place-asked : goal.returns-then-place-asked
returns-then-place-asked c = λ shared long part.
    let place = c.in-Some.place in
    let verdict = c.in-Some.verdict in
    let said : at_place shared place ≡ Some verdict = subst (λ said. IfSome said (λ told. at_place shared told.0 ≡ Some told.1)) c.in-Some.is part.said in
    let lt = place-within shared place verdict said in
    let marked = subst (λ marks. (k : ℕ) → k < c.marked_first-asked.result → get_or marks k false ≡ true) c.as_slice.ensures.value c.marked_first-asked.ensures in
    first-some_at (said_at shared) shared.variants place Base verdict lt
    (λ k d before. silent-first shared c.args.part.silent.items c.marked_first-asked.result k d part.silent marked (omega (arith, before, c.if-place-asked.true)) (omega (arith, before, lt)))
    (sym (place-variant shared place Base lt) ∙ said)

pub returns-then-count-asked : goal.returns-then-count-asked
returns-then-count-asked c = λ shared long part.
    let marked = subst (λ marks. (k : ℕ) → k < c.marked_first-asked.result → get_or marks k false ≡ true) c.as_slice.ensures.value c.marked_first-asked.ensures in
    first-none_at (said_at shared) shared.variants
    (λ k d lt. silent-first shared c.args.part.silent.items c.marked_first-asked.result k d part.silent marked (omega (arith, lt, long, c.if-count-asked.true)) lt)
