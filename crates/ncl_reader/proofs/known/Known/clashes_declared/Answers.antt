use Rattle.ncl_reader.proofs.Kept.{refl, sym, ◌∙◌, inl, false≢true, clashes_scalar, clashes_again, clashes_stands, stands_clashes, some_before}
use Rattle.ncl_reader.proofs.known.Known.clashes_declared.Goals as goal

pub returns-then-is_bit : goal.returns-then-is_bit
returns-then-is_bit c = λ xs range kept declares same fine. (λ e. inl ((c.is_bit.ensures xs kept.ranges).0 c.if-is_bit.true), λ clashes. refl)

pub returns-in_default : goal.returns-in_default
returns-in_default c = λ xs range kept declares same fine. (
  λ e. absurd (false≢true e),
  λ clashes. absurd (clashes_scalar c.args.self.now xs c.args.name.now range c.args.span kept declares same c.in_default.is (λ bit. false≢true (sym c.if-is_bit.false ∙ (c.is_bit.ensures xs kept.ranges).1 bit)) clashes),
)

pub returns-then-is_some : goal.returns-then-is_some
returns-then-is_some c = λ xs range kept declares same fine.
    let (before, found) = some_before _ (sym c.is_some.ensures ∙ c.if-is_some.true) in (
      λ e. absurd (false≢true e),
      λ clashes. absurd (clashes_again c.args.self.now xs c.args.name.now range c.args.span kept declares same c.in-Some.span before c.in-Some.is (sym c.of.ensures ∙ found) fine (λ bit. false≢true (sym c.if-is_bit.false ∙ (c.is_bit.ensures xs kept.ranges).1 bit)) clashes),
    )

pub returns : goal.returns
returns c = λ xs range kept declares same fine. (
  λ e. let (k, covers, stands) = (c.has_bit.ensures xs kept.standing).0 e in clashes_stands c.args.self.now xs c.args.name.now range c.args.span kept declares same c.in-Some.span c.in-Some.is k covers stands,
  λ clashes. (c.has_bit.ensures xs kept.standing).1 (stands_clashes c.args.self.now xs c.args.name.now range c.args.span kept declares same c.in-Some.span c.in-Some.is (λ bit. false≢true (sym c.if-is_bit.false ∙ (c.is_bit.ensures xs kept.ranges).1 bit)) clashes),
)
