use Rattle.ncl_reader.proofs.DraftBody.{◌≡◌, ◌++◌, ◌∷◌, [], Contains, inl, inr, refl, sym, ap, ◌∙◌, subst, header_of, at_declared, IsDeclaring, Redeclares, Clashes, said_by, IsHeader, names_said, said_with, clash_rule, names-body, no_groups, few-body, told-more, said_with-wire, wires_of, gives_some, listed-fine, declared_next}
use Rattle.ncl_reader.proofs.draft.Draft.take_declared.Goals as goal

pub returns-in_default : goal.returns-in_default
returns-in_default c = λ head items spec names kept said early body fine.
    let x = c.args.name.now in
    let xs = at_declared head items spec names in
    let declares : IsDeclaring xs spec.range = inr (head, items, spec.lead, names, refl) in
    let agrees : Redeclares xs x → ⊥ = λ r. fine (inr (inr (inr (inr (inr (inl r)))))) in
    let clear : Clashes xs x → ⊥ = λ r. fine (clash_rule xs x r) in
    let wire = wires_of spec.lead (sym said.0 ∙ c.in_default.is) in
    let same : said_with spec names ≡ said_with spec (names ++ x ∷ []) = said_with-wire spec names wire ∙ sym (said_with-wire spec (names ++ x ∷ []) wire) in
    let header = subst (λ l. IsHeader c.args.self.now.header (header_of head) (said_by (record { head = head; items = items }) ++ l)) same body.1.header in
    declared_next head items spec names x (record c.args.self.now { known = c.declare.new.self }) (c.in_ok-declare.ensures xs spec.range kept declares said.1 agrees clear) said early body.0 body.1.ansi header body.1.cells

pub returns : goal.returns
returns c = λ head items spec names kept said early body fine.
    let d = c.args.self.now in
    let x = c.args.name.now in
    let xs = at_declared head items spec names in
    let told = said_by (record { head = head; items = items }) ++ said_with spec names in
    let declares : IsDeclaring xs spec.range = inr (head, items, spec.lead, names, refl) in
    let agrees : Redeclares xs x → ⊥ = λ r. fine (inr (inr (inr (inr (inr (inl r)))))) in
    let clear : Clashes xs x → ⊥ = λ r. fine (clash_rule xs x r) in
    let (direction, gives, output) = gives_some spec.lead c.in-Some.output (sym said.0 ∙ c.in-Some.is) in
    let known = listed-fine head items spec names direction gives x fine in
    let free : Contains (names_said told) x → ⊥ = λ r. known.1 (subst (λ l. Contains l x) (names-body head items spec names direction gives) r) in
    let none = no_groups head.ports (sym body.1.ansi ∙ early c.in-Some.output c.in-Some.is) in
    let few = few-body head items spec names direction gives x d.header d.lead.span none body.1.header said.1.same known fine in
    let more = c.in_ok-direct.ensures (header_of head) told spec.range body.1.header said.1.same known.0 free few in
    let header = subst (λ l. IsHeader c.direct.new.self (header_of head) l) (ap (λ o. told ++ record { name = x; output = o; range = spec.range } ∷ []) output ∙ told-more head items spec names direction gives x) more in
    declared_next head items spec names x (record d { header = c.direct.new.self; known = c.declare.new.self }) (c.in_ok-declare.ensures xs spec.range kept declares said.1 agrees clear) said early body.0 body.1.ansi header body.1.cells
