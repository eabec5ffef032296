use Rattle.ncl_reader.proofs.RulesAt.{◌++◌, Contains, inl, inr, refl, sym, ◌∙◌, flat_map, false≢true, group_names, in_ansi, IsDeclaring, Redeclares, Clashes, said_in_header, said_of, clash_rule, headed_rule}
use Rattle.ncl_reader.proofs.draft.Draft.breaks_header.Goals as goal

pub returns-then-has : goal.returns-then-has
returns-then-has c = λ groups spec names kept said read. (
  λ e. inr (inl (record { title = c.args.self.now.title.now; groups = groups; spec = spec; names = names; is = refl; stands = (c.has.ensures (flat_map group_names groups ++ names) (flat_map said_in_header groups ++ said_of spec.lead spec.range names) read.header).0 c.if-has.true })),
  λ breaks. refl,
)

pub returns-then-redeclares : goal.returns-then-redeclares
returns-then-redeclares c = λ groups spec names kept said read.
    let xs = in_ansi c.args.self.now.title.now groups spec names in
    let declares : IsDeclaring xs spec.range = inl (c.args.self.now.title.now, groups, spec.lead, names, refl) in (
      λ e. inr (inr (inr (inr (inr (inl ((c.redeclares.ensures xs spec.range kept declares said.1.same).0 c.if-redeclares.true)))))),
      λ breaks. refl,
    )

pub returns-then-clashes_declared : goal.returns-then-clashes_declared
returns-then-clashes_declared c = λ groups spec names kept said read.
    let xs = in_ansi c.args.self.now.title.now groups spec names in
    let declares : IsDeclaring xs spec.range = inl (c.args.self.now.title.now, groups, spec.lead, names, refl) in
    let agrees : Redeclares xs c.args.name.now → ⊥ = λ r. false≢true (sym c.if-redeclares.false ∙ (c.redeclares.ensures xs spec.range kept declares said.1.same).1 r) in (
      λ e. clash_rule xs c.args.name.now ((c.clashes_declared.ensures xs spec.range kept declares said.1.same agrees).0 c.if-clashes_declared.true),
      λ breaks. refl,
    )

pub returns : goal.returns
returns c = λ groups spec names kept said read.
    let title = c.args.self.now.title.now in
    let x = c.args.name.now in
    let xs = in_ansi title groups spec names in
    let told = flat_map said_in_header groups ++ said_of spec.lead spec.range names in
    let listed = flat_map group_names groups ++ names in
    let declares : IsDeclaring xs spec.range = inl (title, groups, spec.lead, names, refl) in
    let agrees : Redeclares xs x → ⊥ = λ r. false≢true (sym c.if-redeclares.false ∙ (c.redeclares.ensures xs spec.range kept declares said.1.same).1 r) in
    let fine : Clashes xs x → ⊥ = λ r. false≢true (sym c.if-clashes_declared.false ∙ (c.clashes_declared.ensures xs spec.range kept declares said.1.same agrees).1 r) in
    let new : Contains listed x → ⊥ = λ r. false≢true (sym c.if-has.false ∙ (c.has.ensures listed told read.header).1 r) in
    let decides = c.crowds_header.ensures groups spec names said read in (
      λ e. inr (inr (inr (inr (inr (inr (inr (decides.0 e))))))),
      λ breaks. elim (headed_rule title groups spec names x breaks) [
        | inl stands ↦ absurd (new stands)
        | inr (inl r) ↦ absurd (agrees r)
        | inr (inr (inl clashes)) ↦ absurd (fine clashes)
        | inr (inr (inr crowds)) ↦ decides.1 crowds
      ],
    )
