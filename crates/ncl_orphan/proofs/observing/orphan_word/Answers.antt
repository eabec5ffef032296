use Rattle.std.proofs.Common.{true, length, sym, ap, ◌∙◌}
use Rattle.std.specs.Option.{option_map}
use Rattle.ncl_space.specs.Functions.{least}
use Rattle.ncl_space.specs.Space.{SpaceData}
use Rattle.ncl_stage.specs.BitOrder.{placed}
use Rattle.ncl_faults.specs.declared.variant.Variant.TheVariants.{Base}
use Rattle.ncl_stage.proofs.ChangedLaws.{values-width}
use Rattle.ncl_orphan.proofs.observing.orphan_word.Goals as goal

pub least_one-requires-clause-width : goal.least_one-requires-clause-width
least_one-requires-clause-width g c = c.in_ok-high.ensures.kept.width ∙ values-width (g.P.Space.meaning c.args.space.now) c.args.stage.now Base c.args.base.now c.facts-2.ensures c.facts.ensures c.requires.base ∙ sym (ap length c.order.ensures ∙ c.requires.base.wired.order.many)

pub returns-clause-word : goal.returns-clause-word
returns-clause-word g c =
    let new : SpaceData = g.P.Space.meaning c.unobserved.new.space in
    c.least_one.ensures
    ∙ (λ k. option_map (placed (c.order.ensures k)) (least true ((c.in_ok-high.ensures.kept.width ∙ values-width (g.P.Space.meaning c.args.space.now) c.args.stage.now Base c.args.base.now c.facts-2.ensures c.facts.ensures c.requires.base) k) (new.table c.in_ok-high.high)))
    ∙ c.in_ok-high.ensures.least
