use Rattle.ncl_diagram.proofs.Terms.{slice_get-get_or, sym, ◌∙◌}
use Rattle.ncl_diagram.proofs.KeyLaws.{other_key, walked_first, walked_on}
use Rattle.ncl_diagram.proofs.keys.probe.Goals as goal

pub walk-init : goal.walk-init
walk-init c = walked_first c.args.keys.now c.args.buckets.now c.args.round c.args.key c.args.hash c.requires.hash c.if-count-eq0.false

pub walk-preserved : goal.walk-preserved
walk-preserved c =
    walked_on c.args.keys.now c.args.buckets.now c.args.round c.args.key c.walk.at _ c.walk.invariant
    (slice_get-get_or c.args.buckets.now c.walk.at (record { round = 0; index = 0 }) c.walk.invariant.within) c.if-bucket-round.false
    (other_key c.args.keys.now _ c.args.key _ (sym c.eq.ensures ∙ c.if-eq.false))
