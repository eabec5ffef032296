use Rattle.ncl_reader.proofs.Places.{◌<◌, ◌++◌, Contains, sym, ap, ◌∙◌, subst, flat_map, option_map, false≢true, none-some, same_Some, group_names, span_of, MOST_PORT_BITS, said_in_header, said_of, bits-grouped_more, range_of, crowds-head, crowds_headed}
use Rattle.ncl_reader.proofs.draft.Draft.crowds_header.Goals as goal

pub returns-in_default : goal.returns-in_default
returns-in_default c = λ groups spec names said read. (
  λ e. absurd (false≢true e),
  λ crowds.
      let (range, is, (new, many)) = crowds_headed c.args.self.now.title.now groups spec names c.args.name.now crowds in
      absurd (none-some (span_of range) (sym c.in_default.is ∙ sym said.1.same ∙ ap (option_map span_of) is)),
)

pub returns-then-has : goal.returns-then-has
returns-then-has c = λ groups spec names said read. (
  λ e. absurd (false≢true e),
  λ crowds.
      let (range, is, (new, many)) = crowds_headed c.args.self.now.title.now groups spec names c.args.name.now crowds in
      absurd (new ((c.has.ensures (flat_map group_names groups ++ names) (flat_map said_in_header groups ++ said_of spec.lead spec.range names) read.header).0 c.if-has.true)),
)

pub returns : goal.returns
returns c = λ groups spec names said read.
    let x = c.args.name.now in
    let listed = flat_map group_names groups ++ names in
    let told = flat_map said_in_header groups ++ said_of spec.lead spec.range names in
    let span = c.in-Some.span in
    let new : Contains listed x → ⊥ = λ found. false≢true (sym c.if-has.false ∙ (c.has.ensures listed told read.header).1 found) in
    let (range, is, numbers) = range_of spec.range span (said.1.same ∙ c.in-Some.is) in (
      λ e. crowds-head c.args.self.now.title.now groups spec names x range is new (subst (λ n. MOST_PORT_BITS < n) (bits-grouped_more groups spec names range span is numbers) ((c.crowds.ensures listed told read.header).0 e)),
      λ crowds.
          let (other, also, (fresh, many)) = crowds_headed c.args.self.now.title.now groups spec names x crowds in
          (c.crowds.ensures listed told read.header).1 (subst (λ n. MOST_PORT_BITS < n) (sym (bits-grouped_more groups spec names other span also (same_Some (span_of other) span (ap (option_map span_of) (sym also) ∙ said.1.same ∙ c.in-Some.is)))) many),
    )
