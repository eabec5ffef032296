use Rattle.ncl_reader.proofs.DraftBody.{◌≡◌, ◌++◌, ◌∷◌, [], Contains, inl, inr, refl, sym, ap, ◌∙◌, subst, append_assoc, flat_map, none-some, same_Some, Contains-last, group_names, in_ansi, IsDeclaring, Redeclares, Clashes, is_output, said_in_header, said_of, IsHeader, names_said, clash_rule, names-grouped, few-grouped, said-grouped_more}
use Rattle.ncl_reader.proofs.draft.Draft.take_header_name.Goals as goal

pub returns-in_default : goal.returns-in_default
returns-in_default c = λ groups spec names kept said read fine. absurd (none-some _ (sym c.in_default.is ∙ said.0))

pub returns : goal.returns
returns c = λ groups spec names kept said read fine.
    let d = c.args.self.now in
    let title = d.title.now in
    let x = c.args.name.now in
    let xs = in_ansi title groups spec names in
    let told = flat_map said_in_header groups ++ said_of spec.lead spec.range names in
    let listed = flat_map group_names groups ++ names in
    let declares : IsDeclaring xs spec.range = inl (title, groups, spec.lead, names, refl) in
    let agrees : Redeclares xs x → ⊥ = λ r. fine (inr (inr (inr (inr (inr (inl r)))))) in
    let clear : Clashes xs x → ⊥ = λ r. fine (clash_rule xs x r) in
    let new : Contains listed x → ⊥ = λ r. fine (inr (inl (record { title = title; groups = groups; spec = spec; names = names; is = refl; stands = r }))) in
    let free : Contains (names_said told) x → ⊥ = λ r. new (subst (λ l. Contains l x) (names-grouped groups spec names) r) in
    let few = few-grouped xs title groups spec names x d.header d.lead.span refl read.header said.1.same new fine in
    let output : c.in-Some.output ≡ is_output spec.lead = same_Some c.in-Some.output (is_output spec.lead) (sym c.in-Some.is ∙ said.0) in
    let more = c.in_ok-direct.ensures (listed ++ x ∷ []) told spec.range (c.in_ok-add.ensures listed told read.header new) said.1.same (Contains-last listed x) free few in (
      refl,
      c.in_ok-declare.ensures xs spec.range kept declares said.1 agrees clear,
      said,
      record {
        ansi = read.ansi;
        header = subst (λ l. IsHeader c.direct.new.self l (flat_map said_in_header groups ++ said_of spec.lead spec.range (names ++ x ∷ []))) (append_assoc (flat_map group_names groups) names (x ∷ [])) (subst (λ l. IsHeader c.direct.new.self (listed ++ x ∷ []) l) (ap (λ o. told ++ record { name = x; output = o; range = spec.range } ∷ []) output ∙ said-grouped_more groups spec names x) more);
        cells = read.cells;
      },
    )
