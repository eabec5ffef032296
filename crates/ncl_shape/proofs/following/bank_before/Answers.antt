use Rattle.ncl_shape.proofs.Terms.{None, Rail, Some, sym, ◌∙◌, ◌≡◌}
use Rattle.ncl_shape.proofs.BankFeeds.{feed_of_follower}
use Rattle.ncl_shape.proofs.following.bank_before.Goals as goal

pub returns-in_default : goal.returns-in_default
returns-in_default c = λ before follows.
    let (r, some) = feed_of_follower c.args.origins.now.netlist c.facts.ensures.drivers.netlist c.requires.free c.args.bank.0 before c.feed.result c.feed.ensures follows in
    let clash : None ≡ Some (Rail r) = sym c.in_default.is ∙ some in
    absurd cc

pub returns-in_default-source : goal.returns-in_default-source
returns-in_default-source c = λ before follows.
    let (r, some) = feed_of_follower c.args.origins.now.netlist c.facts.ensures.drivers.netlist c.requires.free c.args.bank.0 before c.feed.result c.feed.ensures follows in
    let both : Some c.in-Some.source ≡ Some (Rail r) = sym c.in-Some.is ∙ some in
    let same : c.in-Some.source ≡ Rail r = cc in
    c.in_default-source.not-Rail r same
