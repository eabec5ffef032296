use Rattle.ncl_top.proofs.Terms.{IsModelsReply, compiled, subst, sym, too_large}
use Rattle.ncl_top.proofs.compiling.compile_models.Goals as goal

pub compiled_text-requires : goal.compiled_text-requires
compiled_text-requires c = (c.args.models.now, c.in-Ok.ensures.compiled)

pub returns-in_ok-compiled_text-in-Ok : goal.returns-in_ok-compiled_text-in-Ok
returns-in_ok-compiled_text-in-Ok c =
    compiled c.in-Ok.ensures.small c.in-Ok.netlist c.in-Ok.ensures.compiled c.in_ok-compiled_text-in-Ok.field-0.items
    (c.in_ok-compiled_text-in-Ok.ensures c.args.models.now c.in-Ok.ensures.compiled)

pub returns-in_ok-too_large_text-in-Err : goal.returns-in_ok-too_large_text-in-Err
returns-in_ok-too_large_text-in-Err c =
    subst (λ text. IsModelsReply c.args.models.now c.args.merged 3 text) (sym c.in_ok-too_large_text-in-Err.ensures.text)
    (too_large c.in-Err.fault c.in_ok-too_large_text-in-Err.ensures.memory c.in-Err.ensures.fault)
