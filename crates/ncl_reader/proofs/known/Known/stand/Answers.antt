use Rattle.ncl_reader.proofs.Kept.{Name, ranges-other, uses-other, clear-name}
use Rattle.ncl_reader.proofs.known.Known.stand.Goals as goal

pub returns : goal.returns
returns c = λ xs kept none net fine. record {
  ranges = ranges-other c.args.self.now.ranges xs (Name c.args.name.now) (λ y range is declares. none range declares) kept.ranges;
  standing = c.in_ok-stand.ensures xs kept.standing;
  uses = uses-other c.args.self.now.uses xs (Name c.args.name.now) (λ y is at. net at) kept.uses;
  clear = clear-name xs c.args.name.now kept.clear fine;
}
