use Rattle.ncl_rails.proofs.Terms.{IsLaidOut, arith, subst, waits_of}
use Rattle.ncl_rails.proofs.Replacing.{twice_nodes}
use Rattle.ncl_rails.proofs.stage_gates.gates_of.Goals as goal

pub waits_for-requires-clause-few : goal.waits_for-requires-clause-few
waits_for-requires-clause-few c =
    omega (arith, twice_nodes c.in_ok-complete.complete.nodes c.in_ok-complete.ensures.complete.varying.nodes, c.in_ok-complete.ensures.cost, c.requires.split.cheap, c.requires.few_inputs, c.requires.few_outputs)

pub returns : goal.returns
returns c =
    let complete = c.in_ok-complete.complete in
    let laid : IsLaidOut complete (waits_of c.in_ok-waits.waits.items) c.in_ok-layout.layout.gates c.in_ok-layout.layout.outputs.items =
    subst (λ ws. IsLaidOut complete (waits_of ws) c.in_ok-layout.layout.gates c.in_ok-layout.layout.outputs.items) c.deref.ensures.value c.in_ok-layout.ensures in
    record {
      complete = complete;
      is = c.in_ok-complete.ensures.complete;
      alike = c.in_ok-complete.ensures.same;
      waits = waits_of c.in_ok-waits.waits.items;
      covered = c.in_ok-waits.ensures;
      laid = laid;
      few = omega (arith, laid.nodes.few, c.in_ok-complete.ensures.cost);
    }
