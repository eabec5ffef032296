use Rattle.ncl_reader.proofs.Places.{sym, ap, ◌∙◌, subst, digits_value, false≢true, cell_name_of, IsVector, Covers, HoldsAt, spelled, holds-place, same_numbers, OutsideAt, outside-here, place_at}
use Rattle.ncl_reader.specs.declared.place.Place.TheVariants as place
use Rattle.ncl_reader.proofs.draft.Draft.has_no_bit.Goals as goal

pub returns-in_default-net_range : goal.returns-in_default-net_range
returns-in_default-net_range c = λ p holds.
    let (kept, (joining, vector)) = subst (λ at. HoldsAt at c.args.self.now p) c.in-Index.is holds in
    absurd (c.in_default-net_range.ensures (spelled p) kept vector.0 vector.1)

pub returns-in-Some : goal.returns-in-Some
returns-in-Some c = λ p holds.
    let (kept, ((head, items, conns, is, body, are), vector)) = subst (λ at. HoldsAt at c.args.self.now p) c.in-Index.is holds in
    let cell = cell_name_of c.args.self.now.instance.kind in
    let name = c.args.self.now.instance.name.now in
    let pin = c.args.self.now.instance.pin.now in
    let net = c.args.self.now.instance.net.now in
    let value = digits_value 10 c.args.number.digits.now in
    let (range, stands, span) = c.in-Some.ensures (spelled p) kept in (
      λ e. (net, range, (head, items, cell, name, conns, pin, ap spelled is), stands, λ covers. c.is_outside.ensures.0 e (subst (λ s. Covers s value) span covers)),
      λ breaks.
          let (r, also, outside) = subst (λ q. OutsideAt q c.args.number.digits.now) is (outside-here p c.args.number.digits.now breaks) in
          let spans = same_numbers c.args.self.now.known (spelled p) net range r kept stands (subst (λ q. IsVector (spelled q) net r) (sym is) also) in
          c.is_outside.ensures.1 (λ covers. outside (subst (λ s. Covers s value) (sym span ∙ spans) covers)),
    )

pub returns-in_default : goal.returns-in_default
returns-in_default c = λ p holds. (
  λ e. absurd (false≢true e),
  λ (net, range, at, vector, outside). absurd (c.in_default.not-Index (sym (holds-place c.args.place c.args.self.now p holds) ∙ place_at p place.Index (net, at))),
)
