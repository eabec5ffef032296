use Rattle.ncl_shape.proofs.Followers.{unforked_by}
use Rattle.ncl_shape.proofs.following.followers.Goals as goal

pub returns : goal.returns
returns c = unforked_by c.args.origins.now.netlist c.facts.ensures.drivers.netlist c.in_ok-found.found c.in_ok-found.ensures
