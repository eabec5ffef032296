use Rattle.ncl_reader.proofs.DraftBody.{◌≡◌, ◌++◌, Contains, inl, inr, ◌⊎◌, true, false, not, refl, sym, ap, ◌∙◌, subst, false≢true, Gives, Direction, header_of, at_declared, IsDeclaring, directed_by, Redeclares, Clashes, said_by, LacksWay, said_with, clash_rule, some_given, declared_rule, crowds_declared, names-body, gives_of, wire_of}
use Rattle.ncl_reader.proofs.draft.Draft.breaks_declared.Goals as goal

pub returns-then-redeclares : goal.returns-then-redeclares
returns-then-redeclares c = λ head items spec names kept said early body.
    let xs = at_declared head items spec names in
    let declares : IsDeclaring xs spec.range = inr (head, items, spec.lead, names, refl) in (
      λ e. inr (inr (inr (inr (inr (inl ((c.redeclares.ensures xs spec.range kept declares said.1.same).0 c.if-redeclares.true)))))),
      λ breaks. refl,
    )

pub returns-then-clashes_declared : goal.returns-then-clashes_declared
returns-then-clashes_declared c = λ head items spec names kept said early body.
    let xs = at_declared head items spec names in
    let declares : IsDeclaring xs spec.range = inr (head, items, spec.lead, names, refl) in
    let agrees : Redeclares xs c.args.name.now → ⊥ = λ r. false≢true (sym c.if-redeclares.false ∙ (c.redeclares.ensures xs spec.range kept declares said.1.same).1 r) in (
      λ e. clash_rule xs c.args.name.now ((c.clashes_declared.ensures xs spec.range kept declares said.1.same agrees).0 c.if-clashes_declared.true),
      λ breaks. refl,
    )

pub returns-then-is_none : goal.returns-then-is_none
returns-then-is_none c = λ head items spec names kept said early body.
    let x = c.args.name.now in
    let xs = at_declared head items spec names in
    let declares : IsDeclaring xs spec.range = inr (head, items, spec.lead, names, refl) in
    let agrees : Redeclares xs x → ⊥ = λ r. false≢true (sym c.if-redeclares.false ∙ (c.redeclares.ensures xs spec.range kept declares said.1.same).1 r) in
    let fine : Clashes xs x → ⊥ = λ r. false≢true (sym c.if-clashes_declared.false ∙ (c.clashes_declared.ensures xs spec.range kept declares said.1.same agrees).1 r) in
    let wire : (direction : Direction) → spec.lead ≡ Gives direction → ⊥ = wire_of spec c.args.self.now.lead said.0 (c.is_none.ensures ∙ ap not c.if-is_none.true) in (
      λ e. absurd (false≢true e),
      λ breaks. absurd (elim (declared_rule head items spec names x breaks) [
        | inl given ↦ let (direction, gives, why) = some_given spec.lead _ given in wire direction gives
        | inr (inl r) ↦ agrees r
        | inr (inr (inl clashes)) ↦ fine clashes
        | inr (inr (inr crowds)) ↦ let (direction, gives, rest) = crowds_declared head items spec names x crowds in wire direction gives
      ]),
    )

pub returns-then-not-lacks_way : goal.returns-then-not-lacks_way
returns-then-not-lacks_way c = λ head items spec names kept said early body.
    let x = c.args.name.now in
    let (direction, gives) = gives_of spec c.args.self.now.lead said.0 (c.is_none.ensures ∙ ap not c.if-is_none.false) in
    let told = said_by (record { head = head; items = items }) ++ said_with spec names in
    let lacks : LacksWay false (header_of head) told x = subst (λ b. LacksWay b (header_of head) told x) c.if-not-lacks_way.true (c.lacks_way.ensures (header_of head) told body.1.header) in
    let why : ¬ Contains (header_of head) x ⊎ Contains (directed_by head items ++ names) x = subst (λ l. ¬ Contains (header_of head) x ⊎ Contains l x) (names-body head items spec names direction gives) lacks in (
      λ e. inr (inr (inl (record { head = head; items = items; direction = direction; range = spec.range; names = names; is = ap (λ l. at_declared head items (record { lead = l; range = spec.range }) names) gives; breaks = why }))),
      λ breaks. refl,
    )

pub returns : goal.returns
returns c = λ head items spec names kept said early body.
    let x = c.args.name.now in
    let xs = at_declared head items spec names in
    let told = said_by (record { head = head; items = items }) ++ said_with spec names in
    let declares : IsDeclaring xs spec.range = inr (head, items, spec.lead, names, refl) in
    let agrees : Redeclares xs x → ⊥ = λ r. false≢true (sym c.if-redeclares.false ∙ (c.redeclares.ensures xs spec.range kept declares said.1.same).1 r) in
    let fine : Clashes xs x → ⊥ = λ r. false≢true (sym c.if-clashes_declared.false ∙ (c.clashes_declared.ensures xs spec.range kept declares said.1.same agrees).1 r) in
    let (direction, gives) = gives_of spec c.args.self.now.lead said.0 (c.is_none.ensures ∙ ap not c.if-is_none.false) in
    let lacks : LacksWay true (header_of head) told x = subst (λ b. LacksWay b (header_of head) told x) c.if-not-lacks_way.false (c.lacks_way.ensures (header_of head) told body.1.header) in
    let free : Contains (directed_by head items ++ names) x → ⊥ = λ r. lacks.1 (subst (λ l. Contains l x) (sym (names-body head items spec names direction gives)) r) in
    let decides = c.crowds_items.ensures head items spec names said early body in (
      λ e. inr (inr (inr (inr (inr (inr (inr (decides.0 e))))))),
      λ breaks. elim (declared_rule head items spec names x breaks) [
        | inl given ↦ let (o, g, why) = some_given spec.lead _ given in absurd (elim why [
          | inl absent ↦ absent lacks.0
          | inr again ↦ free again
        ])
        | inr (inl r) ↦ absurd (agrees r)
        | inr (inr (inl clashes)) ↦ absurd (fine clashes)
        | inr (inr (inr crowds)) ↦ decides.1 crowds
      ],
    )
