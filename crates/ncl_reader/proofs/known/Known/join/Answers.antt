use Rattle.ncl_reader.proofs.Kept.{Name, declared_unused, ranges-other, uses-more, clear-name}
use Rattle.ncl_reader.proofs.known.Known.join.Goals as goal

pub returns : goal.returns
returns c = λ xs kept net fine. record {
  ranges = ranges-other c.args.self.now.ranges xs (Name c.args.name.now) (λ y range same declares. declared_unused xs range declares net) kept.ranges;
  standing = c.in_ok-stand.ensures xs kept.standing;
  uses = uses-more c.args.self.now.uses _ xs c.args.name.now (c.in_ok-add.ensures {u = tt}) kept.uses net;
  clear = clear-name xs c.args.name.now kept.clear fine;
}
