use Rattle.ncl_reader.proofs.DraftSteps.{refl, sym, ◌∙◌, subst, false≢true, Name, Clashes, spelled, MayStand, not_declaring, breaks-here, plain_free, against, clashing}
use Rattle.ncl_reader.proofs.draft.Draft.at_plain.Goals as goal

pub returns-then-clashes : goal.returns-then-clashes
returns-then-clashes c = λ p (kept, by).
    let x = c.args.name.now in
    let undeclared = not_declaring p (plain_free c.args.place c.args.self.now p c.requires by).0 in
    clashing c.args.place p (Name x) x c.args.self.now refl ((c.clashes.ensures (spelled p) kept undeclared).0 c.if-clashes.true) (kept, by)

pub returns-then-not-may_stand : goal.returns-then-not-may_stand
returns-then-not-may_stand c = λ p (kept, by).
    let x = c.args.name.now in
    let breaks = subst (λ may. MayStand may (spelled p) x) c.if-not-may_stand.true (c.may_stand.ensures p by) in
    against c.args.place p p (Name x) c.args.self.now refl (Name x) refl (breaks-here p (Name x) breaks) (kept, by)

pub returns : goal.returns
returns c = λ p (kept, by).
    let x = c.args.name.now in
    let undeclared = not_declaring p (plain_free c.args.place c.args.self.now p c.requires by).0 in
    let clear : ¬ Clashes (spelled p) x = λ clashes. false≢true (sym c.if-clashes.false ∙ (c.clashes.ensures (spelled p) kept undeclared).1 clashes) in
    let may = subst (λ may. MayStand may (spelled p) x) c.if-not-may_stand.false (c.may_stand.ensures p by) in
    c.in_ok-take_plain.ensures p (kept, by) (may clear)
