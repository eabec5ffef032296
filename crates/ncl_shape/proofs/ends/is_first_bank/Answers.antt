use Rattle.ncl_shape.proofs.Terms.{IsFeedOf, Port, Some, ap, subst, sym, ◌∙◌, ◌≡◌}
use Rattle.ncl_shape.proofs.BankFeeds.{feed_of_first}
use Rattle.ncl_shape.proofs.ends.is_first_bank.Goals as goal

pub returns : goal.returns
returns c = (
  (λ holds. subst (IsFeedOf c.args.origins.now.netlist c.args.bank.0) (c.in-Some.is ∙ ap Some (c.same_source.ensures.0 holds)) c.feed.ensures),
  λ first.
      let both : Some c.in-Some.source ≡ Some Port = sym c.in-Some.is ∙ feed_of_first c.args.origins.now.netlist c.facts.ensures.drivers.netlist c.requires.free c.args.bank.0 c.feed.result c.feed.ensures first in
      let same : c.in-Some.source ≡ Port = cc in
      c.same_source.ensures.1 same,
)
