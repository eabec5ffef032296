use Rattle.ncl_reader.proofs.Loop.{Ok, Err, sym, ap, ◌∙◌, subst, some_list, meant, IsFaultAt, Breaks, spelled, HoldsAt, Takes, TakesOrBreaks, holds-place, LoopAt, loop-first, loop-more, loop-broken, loop-bad, loop-short, few_before, read-token, next-space, next-bad, refused-fault, whole-at}
use Rattle.ncl_reader.specs.declared.place.Place.TheVariants as place
use Rattle.ncl_reader.proofs.reader.read_tokens.Goals as goal

pub loop-token-init : goal.loop-token-init
loop-token-init c =
    let (tokens, stop, are) = some_list c.args.bytes.now in
    (c.new-tokens.ensures.bytes, subst (λ p. LoopAt c.args.bytes.now p place.Module c.args.draft.now) (sym c.new-tokens.ensures.place) (loop-first c.args.bytes.now c.args.draft.now tokens stop are c.requires))

pub loop-token-preserved : goal.loop-token-preserved
loop-token-preserved c =
    let bytes = c.args.bytes.now in
    let token = c.in-Ok-Some.token in
    let loop = c.loop-token.invariant.1 in
    let here = read-token bytes c.loop-token.tokens c.next.new.self c.next.result token (meant c.lexeme_of-lexeme.result) c.loop-token.invariant.0 c.next.ensures.answer c.next.ensures.after (c.in-Ok-Some.is ∙ ap Ok c.in-Ok-Some.field-0-is) c.lexeme_of-lexeme.ensures in
    let takes : Takes loop.kept.stands.tree (meant c.lexeme_of-lexeme.result) c.in-Some.after c.step.new.self = subst (λ o. TakesOrBreaks c.loop-token.place loop.kept.stands.tree (meant c.lexeme_of-lexeme.result) o c.step.new.self) c.in-Some.is (c.in_ok-after-in-Ok-Some.ensures loop.kept.stands.tree loop.kept.holds) in
    (here.text, subst (λ p. LoopAt bytes p c.in-Some.after c.step.new.self) (sym here.behind) (loop-more bytes c.loop-token.tokens.place c.loop-token.place c.loop-token.draft loop c.in-Some.after c.step.new.self token here.next (subst (λ u. Takes loop.kept.stands.tree u c.in-Some.after c.step.new.self) here.lexeme takes)))

pub returns-in-None-clause-fault : goal.returns-in-None-clause-fault
returns-in-None-clause-fault c =
    let bytes = c.args.bytes.now in
    let token = c.in-Ok-Some.token in
    let loop = c.loop-token.invariant.1 in
    let here = read-token bytes c.loop-token.tokens c.next.new.self c.next.result token (meant c.lexeme_of-lexeme.result) c.loop-token.invariant.0 c.next.ensures.answer c.next.ensures.after (c.in-Ok-Some.is ∙ ap Ok c.in-Ok-Some.field-0-is) c.lexeme_of-lexeme.ensures in
    let (breaks, holds) = subst (λ o. TakesOrBreaks c.loop-token.place loop.kept.stands.tree (meant c.lexeme_of-lexeme.result) o c.step.new.self) c.in-None.is (c.in_ok-after-in-Ok-Some.ensures loop.kept.stands.tree loop.kept.holds) in
    refused-fault bytes c.refusal.result (loop-broken bytes c.loop-token.tokens.place c.loop-token.place c.loop-token.draft loop token c.refusal.result here.next (subst (Breaks (spelled loop.kept.stands.tree)) here.lexeme breaks)
    (subst (λ u. IsFaultAt (spelled loop.kept.stands.tree) (record { lexeme = u; place = token.start }) c.refusal.result) here.lexeme (c.refusal.ensures loop.kept.stands.tree holds breaks)))

pub returns-in-End-clause-parts : goal.returns-in-End-clause-parts
returns-in-End-clause-parts c =
    let space = next-space c.args.bytes.now c.loop-token.tokens.bytes c.loop-token.tokens.place c.next.result c.loop-token.invariant.0 c.next.ensures.answer (c.in-Ok-None.is ∙ ap Ok c.in-Ok-None.field-0-is) in
    whole-at c.args.bytes.now c.loop-token.tokens.place c.loop-token.place c.loop-token.draft c.in-End.is c.loop-token.invariant.1 space

pub returns-in-End-clause-few : goal.returns-in-End-clause-few
returns-in-End-clause-few c =
    let loop = c.loop-token.invariant.1 in
    let stands = loop.kept.stands in
    (stands.tree, subst (λ at. HoldsAt at c.loop-token.draft stands.tree) c.in-End.is loop.kept.holds, few_before c.args.bytes.now c.loop-token.tokens.place c.loop-token.place c.loop-token.draft loop)

pub returns-in_default-clause-fault : goal.returns-in_default-clause-fault
returns-in_default-clause-fault c =
    let loop = c.loop-token.invariant.1 in
    let space = next-space c.args.bytes.now c.loop-token.tokens.bytes c.loop-token.tokens.place c.next.result c.loop-token.invariant.0 c.next.ensures.answer (c.in-Ok-None.is ∙ ap Ok c.in-Ok-None.field-0-is) in
    loop-short c.args.bytes.now c.loop-token.tokens.place c.loop-token.place c.loop-token.draft loop space (λ e. c.in_default.not-End (sym (holds-place c.loop-token.place c.loop-token.draft loop.kept.stands.tree loop.kept.holds) ∙ e))

pub returns-in-Err-clause-fault : goal.returns-in-Err-clause-fault
returns-in-Err-clause-fault c = loop-bad c.args.bytes.now c.loop-token.tokens.place c.loop-token.place c.loop-token.draft c.loop-token.invariant.1 c.bad_place.result (next-bad c.args.bytes.now c.loop-token.tokens.bytes c.loop-token.tokens.place c.next.result c.loop-token.invariant.0 c.next.ensures.answer c.bad_place.result (c.in-Err.is ∙ ap Err c.bad_place.ensures))
