use Rattle.ncl_reader.proofs.Kept.{refl, sym, ap, ◌∙◌, inr, false≢true, none-some, option_map, span_of, none_range, redeclares_other, redeclares_used}
use Rattle.ncl_reader.proofs.known.Known.redeclares.Goals as goal

pub returns-then-not-agrees : goal.returns-then-not-agrees
returns-then-not-agrees c = λ xs range kept declares same. (
  λ e. redeclares_other c.args.self.now xs c.args.name.now range c.args.span kept declares same (λ agrees. false≢true (sym c.if-not-agrees.true ∙ (c.agrees.ensures xs kept.ranges).1 agrees)),
  λ redeclares. refl,
)

pub returns-in-Some : goal.returns-in-Some
returns-in-Some c = λ xs range kept declares same. (
  λ e. (range, declares, inr (λ none. none-some _ (ap (option_map span_of) (sym none) ∙ same ∙ c.in-Some.is), kept.uses.only c.args.name.now (sym c.has.ensures ∙ e))),
  λ redeclares. c.has.ensures ∙ kept.uses.used c.args.name.now (redeclares_used c.args.self.now xs c.args.name.now range c.args.span kept declares same ((c.agrees.ensures xs kept.ranges).0 c.if-not-agrees.false) redeclares).1,
)

pub returns-in-None : goal.returns-in-None
returns-in-None c = λ xs range kept declares same. (
  λ e. absurd (false≢true e),
  λ redeclares. absurd ((redeclares_used c.args.self.now xs c.args.name.now range c.args.span kept declares same ((c.agrees.ensures xs kept.ranges).0 c.if-not-agrees.false) redeclares).0 (none_range range (same ∙ c.in-None.is))),
)
