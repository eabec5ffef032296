use Rattle.ncl_reader.proofs.Kept.{◌++◌, ◌∷◌, [], Name, agrees_fine, declared_unused, uses-other, uses-same, clear-name}
use Rattle.ncl_reader.proofs.known.Known.declare.Goals as goal

pub returns-in_ok-sort : goal.returns-in_ok-sort
returns-in_ok-sort c = λ xs range kept declares is redeclares fine. record {
  ranges = c.in_ok-declare.ensures xs range kept.ranges declares is.same (agrees_fine xs c.args.name.now range c.args.span declares is.same redeclares) is.few;
  standing = c.in_ok-stand.ensures xs kept.standing;
  uses = uses-same c.args.self.now.uses _ (xs ++ Name c.args.name.now ∷ []) (c.in_ok-sort.ensures {u = tt}) (uses-other c.args.self.now.uses xs (Name c.args.name.now) (λ y same at. declared_unused xs range declares at) kept.uses);
  clear = clear-name xs c.args.name.now kept.clear fine;
}

pub returns-else-is_some : goal.returns-else-is_some
returns-else-is_some c = λ xs range kept declares is redeclares fine. record {
  ranges = c.in_ok-declare.ensures xs range kept.ranges declares is.same (agrees_fine xs c.args.name.now range c.args.span declares is.same redeclares) is.few;
  standing = c.in_ok-stand.ensures xs kept.standing;
  uses = uses-other c.args.self.now.uses xs (Name c.args.name.now) (λ y same at. declared_unused xs range declares at) kept.uses;
  clear = clear-name xs c.args.name.now kept.clear fine;
}
