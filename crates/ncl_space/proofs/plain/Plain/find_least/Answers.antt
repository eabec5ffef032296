use Rattle.ncl_space.proofs.Terms.{Bool, List, PlainData, Some, ap, arith, false, is_value, length, slice_index_or, sym, table_at, word_of, ◌+◌, ◌<◌, ◌^◌, ◌∙◌}
use Rattle.ncl_space.proofs.BitLaws.{find-first, find-nowhere}
use Rattle.ncl_space.proofs.CountedMarks.{from_nat_lt}
use Rattle.ncl_space.proofs.PlainLaws.{IsPlain-view, length-table_at}
use Rattle.ncl_space.proofs.plain.Plain.find_least.Goals as goal

pub returns-in-Some-clause-word : goal.returns-in-Some-clause-word
returns-in-Some-clause-word c =
    let p : PlainData = c.args.self.now in
    let t : List Bool = table_at p.width p.tables c.args.x.place in
    let long = length-table_at p (IsPlain-view _ _ _ _ p c.self.invariant c.self.view_is) c.args.x.place (from_nat_lt c.args.x.place (length p.tables + 2) c.requires) in
    let first = c.in-Some.ensures.some in
    let within : c.in-Some.number < 2 ^ p.width = omega (arith, first.within) in
    find-first p.width (λ i. is_value c.args.value (slice_index_or t i false)) c.in-Some.number within first.is first.before
    ∙ ap Some (sym (c.numbered_word.ensures ∙ ap (λ (q : PlainData). word_of q.width c.in-Some.number) c.self.view_is))

pub returns-in-None-clause-word : goal.returns-in-None-clause-word
returns-in-None-clause-word c =
    let p : PlainData = c.args.self.now in
    let t : List Bool = table_at p.width p.tables c.args.x.place in
    let long = length-table_at p (IsPlain-view _ _ _ _ p c.self.invariant c.self.view_is) c.args.x.place (from_nat_lt c.args.x.place (length p.tables + 2) c.requires) in
    find-nowhere p.width (λ i. is_value c.args.value (slice_index_or t i false)) (λ i lt. let there : i < length t = omega arith in c.in-None.ensures.none i there)
