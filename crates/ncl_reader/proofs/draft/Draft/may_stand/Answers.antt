use Rattle.ncl_reader.proofs.DraftSteps.{[], subst, HoldsBy, free_may, port_may, pin_may}
use Rattle.ncl_reader.proofs.draft.Draft.may_stand.Goals as goal

pub returns-in-Port : goal.returns-in-Port
returns-in-Port c = λ p by.
    let d = c.args.self.now in
    let (names, is, some, read) = subst (λ at. HoldsBy at d p) c.in-Port.is by in
    port_may p c.args.name.now d.title.now names c.has.result is (c.has.ensures names [] read.header)

pub returns-in-Pin : goal.returns-in-Pin
returns-in-Pin c = λ p by.
    let d = c.args.self.now in
    let (head, items, conns, is, body, are) = subst (λ at. HoldsBy at d p) c.in-Pin.is by in
    pin_may p c.args.name.now head items d.instance.kind d.instance.name.now conns c.may_join.result is (c.may_join.ensures conns are)

pub returns-in_default : goal.returns-in_default
returns-in_default c = λ p by. free_may c.args.place c.args.self.now p c.args.name.now c.requires c.in_default.not-Port c.in_default.not-Pin by
