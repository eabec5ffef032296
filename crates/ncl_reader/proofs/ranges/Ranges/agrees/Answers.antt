use Rattle.ncl_reader.proofs.Kept.{refl, sym, ◌∙◌, unvectored}
use Rattle.ncl_reader.proofs.ranges.Ranges.agrees.Goals as goal

pub returns-in-None-vector : goal.returns-in-None-vector
returns-in-None-vector c = λ xs is. (
  λ e other declared. unvectored c.args.self.now xs c.args.name.now is c.in-None-vector.ensures other declared ∙ sym c.in-None.is,
  λ agrees. refl,
)
