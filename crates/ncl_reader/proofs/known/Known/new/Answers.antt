use Rattle.ncl_reader.proofs.Kept.{clear-none, uses-none}
use Rattle.ncl_reader.proofs.known.Known.new.Goals as goal

pub returns : goal.returns
returns c = record { ranges = c.new.ensures; standing = c.new-2.ensures; uses = uses-none _ c.new-3.ensures; clear = clear-none }
