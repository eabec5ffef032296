use Rattle.std.proofs.Common.{◌∙◌, ◌+◌, ◌*◌, ◌/◌, ℕ, ap}
use Rattle.ncl_diagram.proofs.Packing.{each_below, high_made}
use Rattle.ncl_diagram.proofs.slot.below_answer.Goals as goal

pub returns : goal.returns
returns c all =
    let below = each_below 16777216 c.args.key all in
    high_made c.args.key.c.place c.args.key.d.place c.kind_number-top.result below.2 below.3 c.kind_number-top.ensures.few
    ∙ ap (λ (n : ℕ). (n * 16777216 + c.args.key.d.place) * 256 + c.args.key.c.place / 65536) c.kind_number-top.ensures.number
