use Rattle.std.proofs.Common.{[], ◌∷◌, map, subst}
use Rattle.ncl_space.specs.Functions.{gate_table}
use Rattle.ncl_space.specs.Plain.{PlainData, plain_space}
use Rattle.ncl_space.specs.Space.{Adds}
use Rattle.judging_tests.proofs.tests.testing.CountingSpace.apply.Goals as goal

pub returns-clause-adds : goal.returns-clause-adds
returns-clause-adds c = subst (λ (p : PlainData). Adds (plain_space p) (plain_space c.apply.new.self) (gate_table p.width c.args.kind (map (plain_space p).table c.args.ins.now) ∷ [])) c.self.view_is c.apply.ensures.adds
