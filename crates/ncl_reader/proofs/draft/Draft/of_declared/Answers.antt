use Rattle.ncl_reader.proofs.Places.{inl, inr, sym, ◌∙◌, false≢true, Redeclares, declared_no_conn, misdeclared, undeclarable}
use Rattle.ncl_reader.proofs.draft.Draft.of_declared.Goals as goal

pub returns-then-redeclares : goal.returns-then-redeclares
returns-then-redeclares c = λ xs range kept declares same decided.
    misdeclared xs range declares c.args.name.now c.args.at (inl ((c.redeclares.ensures xs range kept declares same).0 c.if-redeclares.true))

pub returns-then-clashes_declared : goal.returns-then-clashes_declared
returns-then-clashes_declared c = λ xs range kept declares same decided.
    let agrees : Redeclares xs c.args.name.now → ⊥ = λ r. false≢true (sym c.if-redeclares.false ∙ (c.redeclares.ensures xs range kept declares same).1 r) in
    undeclarable xs range declares c.args.name.now c.args.at agrees (inl ((c.clashes_declared.ensures xs range kept declares same agrees).0 c.if-clashes_declared.true))

pub returns-then-crowds : goal.returns-then-crowds
returns-then-crowds c = λ xs range kept declares same decided.
    let agrees : Redeclares xs c.args.name.now → ⊥ = λ r. false≢true (sym c.if-redeclares.false ∙ (c.redeclares.ensures xs range kept declares same).1 r) in
    undeclarable xs range declares c.args.name.now c.args.at agrees (inr (decided.0 c.if-crowds.true))

pub returns : goal.returns
returns c = λ xs range kept declares same decided.
    let agrees : Redeclares xs c.args.name.now → ⊥ = λ r. false≢true (sym c.if-redeclares.false ∙ (c.redeclares.ensures xs range kept declares same).1 r) in
    misdeclared xs range declares c.args.name.now c.args.at (inr (λ left. elim left [
      | inl conn ↦ declared_no_conn xs range declares conn
      | inr more ↦ elim more [
        | inl clashes ↦ false≢true (sym c.if-clashes_declared.false ∙ (c.clashes_declared.ensures xs range kept declares same agrees).1 clashes)
        | inr crowds ↦ false≢true (sym c.if-crowds.false ∙ decided.1 crowds)
      ]
    ]))
