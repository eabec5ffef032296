use Rattle.std.proofs.Common.{◌+◌, ◌*◌}
use Rattle.ncl_choice.proofs.rules.Planner.+pricing.Given as goal

abbrev pub decreases-cells : goal.decreases-cells
decreases-cells l = 4 * l.fuel

abbrev pub decreases-rule : goal.decreases-rule
decreases-rule l = 4 * l.fuel

abbrev pub decreases-priced : goal.decreases-priced
decreases-priced l = 4 * l.fuel + 1

abbrev pub decreases-cheapest_join : goal.decreases-cheapest_join
decreases-cheapest_join l = 4 * l.fuel + 2

abbrev pub decreases-cheaper_split : goal.decreases-cheaper_split
decreases-cheaper_split l = 4 * l.fuel + 2

abbrev pub decreases-cheapest_split : goal.decreases-cheapest_split
decreases-cheapest_split l = 4 * l.fuel + 3
