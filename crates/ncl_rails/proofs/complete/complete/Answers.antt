use Rattle.std.proofs.Common.{arith}
use Rattle.ncl_rails.proofs.Replacing.{twice_nodes, AnswersAs-then}
use Rattle.ncl_rails.proofs.complete.complete.Goals as goal

pub join_unread-requires-clause-room : goal.join_unread-requires-clause-room
join_unread-requires-clause-room c =
    omega (arith, twice_nodes c.in_ok-varying.varying.nodes c.in_ok-varying.ensures.varying.nodes, c.in_ok-varying.ensures.cost, c.in_ok-varying.ensures.same.inputs, c.requires.split.cheap, c.requires.few_inputs, c.requires.few_outputs)

pub returns-clause-same : goal.returns-clause-same
returns-clause-same c =
    AnswersAs-then c.args.network.now c.in_ok-varying.varying c.in_ok-complete.complete c.in_ok-varying.ensures.same c.in_ok-complete.ensures.same
