use Rattle.ncl_compile.proofs.Terms.{AreBankParts, CanBeBank, bank_prefix, root_name, subst, sym, ◌∙◌, ◌≡◌}
use Rattle.std.proofs.Common.{codes}
use Rattle.std.specs.Result.{IfOk}
use Rattle.ncl_compile.proofs.banks.bank_asked.Goals as goal

pub bank_parts-requires : goal.bank_parts-requires
bank_parts-requires c =
    let prefix : c.deref.result.now ≡ bank_prefix c.args.number = c.deref.ensures.value ∙ c.in_ok-prefix.ensures in
    subst (λ x. CanBeBank c.args.ins.now c.args.outs.now c.args.request.now x c.in_ok-root.root c.deref.result.now) (sym c.in_ok-rst.ensures)
    (subst (λ x. CanBeBank c.args.ins.now c.args.outs.now c.args.request.now (codes "rst") x c.deref.result.now) (sym c.in_ok-root.ensures)
    (subst (λ x. CanBeBank c.args.ins.now c.args.outs.now c.args.request.now (codes "rst") (root_name c.args.number) x) (sym prefix) c.requires.can))

pub returns : goal.returns
returns c =
    let prefix : c.deref.result.now ≡ bank_prefix c.args.number = c.deref.ensures.value ∙ c.in_ok-prefix.ensures in
    subst (λ x. IfOk c.bank_parts.result (AreBankParts c.args.ins.now c.args.outs.now c.args.request.now x (root_name c.args.number) (bank_prefix c.args.number))) c.in_ok-rst.ensures
    (subst (λ x. IfOk c.bank_parts.result (AreBankParts c.args.ins.now c.args.outs.now c.args.request.now c.in_ok-rst.rst x (bank_prefix c.args.number))) c.in_ok-root.ensures
    (subst (λ x. IfOk c.bank_parts.result (AreBankParts c.args.ins.now c.args.outs.now c.args.request.now c.in_ok-rst.rst c.in_ok-root.root x)) prefix c.bank_parts.ensures))
