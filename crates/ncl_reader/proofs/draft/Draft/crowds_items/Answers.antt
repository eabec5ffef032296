use Rattle.ncl_reader.proofs.Places.{not, ◌<◌, ◌++◌, true, false, Contains, inl, inr, sym, ap, ◌∙◌, subst, option_map, false≢true, none-some, same_Some, header_of, span_of, MOST_PORT_BITS, directed_by, lead_output, LacksWay, said_by, is_output, said_with, bits-body, names-body, no_groups, gives_of, wire_of, range_of, crowds-item, crowds_declared}
use Rattle.ncl_reader.proofs.draft.Draft.crowds_items.Goals as goal

pub returns-in_default : goal.returns-in_default
returns-in_default c = λ head items spec names said early body. (
  λ e. absurd (false≢true e),
  λ crowds.
      let (direction, gives, (range, is, rest)) = crowds_declared head items spec names c.args.name.now crowds in
      absurd (none-some (span_of range) (sym c.in_default.is ∙ sym said.1.same ∙ ap (option_map span_of) is)),
)

pub returns-then-is_none : goal.returns-then-is_none
returns-then-is_none c = λ head items spec names said early body. (
  λ e. absurd (false≢true e),
  λ crowds.
      let (direction, gives, rest) = crowds_declared head items spec names c.args.name.now crowds in
      absurd (wire_of spec c.args.self.now.lead said.0 (c.is_none.ensures ∙ ap not c.if-is_none.true) direction gives),
)

pub returns-then-not-lacks_way : goal.returns-then-not-lacks_way
returns-then-not-lacks_way c = λ head items spec names said early body. (
  λ e. absurd (false≢true e),
  λ crowds.
      let x = c.args.name.now in
      let told = said_by (record { head = head; items = items }) ++ said_with spec names in
      let (direction, gives, (range, is, (stands, (new, many)))) = crowds_declared head items spec names x crowds in
      let lacks : LacksWay false (header_of head) told x = subst (λ b. LacksWay b (header_of head) told x) c.if-not-lacks_way.true (c.lacks_way.ensures (header_of head) told body.1.header) in
      elim lacks [
        | inl absent ↦ absurd (absent stands)
        | inr found ↦ absurd (new (subst (λ l. Contains l x) (names-body head items spec names direction gives) found))
      ],
)

pub returns : goal.returns
returns c = λ head items spec names said early body.
    let x = c.args.name.now in
    let told = said_by (record { head = head; items = items }) ++ said_with spec names in
    let span = c.in-Some.span in
    let (direction, gives) = gives_of spec c.args.self.now.lead said.0 (c.is_none.ensures ∙ ap not c.if-is_none.false) in
    let lacks : LacksWay true (header_of head) told x = subst (λ b. LacksWay b (header_of head) told x) c.if-not-lacks_way.false (c.lacks_way.ensures (header_of head) told body.1.header) in
    let new : Contains (directed_by head items ++ names) x → ⊥ = λ r. lacks.1 (subst (λ l. Contains l x) (sym (names-body head items spec names direction gives)) r) in
    let none = no_groups head.ports (sym body.1.ansi ∙ early (is_output direction) (said.0 ∙ ap lead_output gives)) in
    let (range, is, numbers) = range_of spec.range span (said.1.same ∙ c.in-Some.is) in (
      λ e. crowds-item head items spec names x direction range gives is lacks.0 new (subst (λ n. MOST_PORT_BITS < n) (bits-body head items spec names direction gives none range span is numbers) ((c.crowds.ensures (header_of head) told body.1.header).0 e)),
      λ crowds.
          let (o, g, (other, also, (stands, (fresh, many)))) = crowds_declared head items spec names x crowds in
          (c.crowds.ensures (header_of head) told body.1.header).1 (subst (λ n. MOST_PORT_BITS < n) (sym (bits-body head items spec names direction gives none other span also (same_Some (span_of other) span (ap (option_map span_of) (sym also) ∙ said.1.same ∙ c.in-Some.is)))) many),
    )
