use Rattle.ncl_compile.proofs.Terms.{AreStageParts, CanBeStage, inner_pairs, stage_prefix, subst, sym, ◌∙◌, ◌≡◌}
use Rattle.std.specs.Result.{IfOk}
use Rattle.ncl_compile.proofs.stages.stage_named.Goals as goal

pub stage_parts-requires : goal.stage_parts-requires
stage_parts-requires c =
    let ins : c.deref.result.now ≡ inner_pairs c.args.number c.args.inputs = c.deref.ensures.value ∙ c.in_ok-ins.ensures in
    let prefix : c.deref-2.result.now ≡ stage_prefix c.args.number = c.deref-2.ensures.value ∙ c.in_ok-prefix.ensures in
    subst (λ l. CanBeStage c.args.network.now l c.deref-2.result.now) (sym ins) (subst (CanBeStage c.args.network.now (inner_pairs c.args.number c.args.inputs)) (sym prefix) c.requires.can)

pub returns : goal.returns
returns c =
    let ins : c.deref.result.now ≡ inner_pairs c.args.number c.args.inputs = c.deref.ensures.value ∙ c.in_ok-ins.ensures in
    let prefix : c.deref-2.result.now ≡ stage_prefix c.args.number = c.deref-2.ensures.value ∙ c.in_ok-prefix.ensures in
    subst (λ l. IfOk c.stage_parts.result (AreStageParts c.args.network.now l (stage_prefix c.args.number))) ins
    (subst (λ l. IfOk c.stage_parts.result (AreStageParts c.args.network.now c.deref.result.now l)) prefix c.stage_parts.ensures)
