use Rattle.ncl_compile.proofs.Terms.{AreBankParts, CanBeBank, arith, bank_prefix, pairs_driven, request_name, root_name, subst, sym, ◌∙◌, ◌≡◌}
use Rattle.std.proofs.Common.{codes}
use Rattle.std.specs.Result.{IfOk}
use Rattle.ncl_compile.proofs.CallLaws.{bank_can}
use Rattle.ncl_compile.proofs.banks.bank_between.Goals as goal

pub bank_asked-requires-clause-can : goal.bank_asked-requires-clause-can
bank_asked-requires-clause-can c =
    let ins = c.args.ins.now in
    let outs : c.deref.result.now ≡ pairs_driven c.args.last c.args.number c.args.width = c.deref.ensures.value ∙ c.in_ok-outs.ensures in
    let can = bank_can c.args.last c.args.number c.args.width c.requires.few (omega arith) c.requires.within ins c.requires.some c.requires.as_many c.requires.free in
    subst (λ l. CanBeBank ins l c.in_ok-request.request (codes "rst") (root_name c.args.number) (bank_prefix c.args.number)) (sym outs)
    (subst (λ x. CanBeBank ins (pairs_driven c.args.last c.args.number c.args.width) x (codes "rst") (root_name c.args.number) (bank_prefix c.args.number)) (sym c.in_ok-request.ensures) can)

pub returns : goal.returns
returns c =
    let outs : c.deref.result.now ≡ pairs_driven c.args.last c.args.number c.args.width = c.deref.ensures.value ∙ c.in_ok-outs.ensures in
    subst (λ l. IfOk c.bank_asked.result (AreBankParts c.args.ins.now l (request_name c.args.last c.args.number) (codes "rst") (root_name c.args.number) (bank_prefix c.args.number))) outs
    (subst (λ x. IfOk c.bank_asked.result (AreBankParts c.args.ins.now c.deref.result.now x (codes "rst") (root_name c.args.number) (bank_prefix c.args.number))) c.in_ok-request.ensures c.bank_asked.ensures)
