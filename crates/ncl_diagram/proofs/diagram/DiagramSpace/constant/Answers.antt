use Rattle.ncl_diagram.proofs.Terms.{ap, table_from, ◌∙◌}
use Rattle.ncl_diagram.proofs.Rails.{table_from-constant}
use Rattle.ncl_diagram.proofs.diagram.DiagramSpace.constant.Goals as goal

pub returns-clause-table : goal.returns-clause-table
returns-clause-table c = ap (table_from c.args.self.now.nodes c.args.self.now.width 0) c.constant.ensures ∙ table_from-constant c.args.self.now.nodes c.args.value c.args.self.now.width 0
