use Rattle.ncl_diagram.proofs.Terms.{Key, List, Option, Ref, Some, ap, arith, inl, inr, length, refl, slice_get, slice_get-get_or, sym, ◌<◌, ◌∙◌, ◌≡◌}
use Rattle.ncl_diagram.proofs.MemoLaws.{none_put, put_last}
use Rattle.ncl_diagram.proofs.memo.Memo.begin.Goals as goal

pub returns-then-not-added-clause-begins : goal.returns-then-not-added-clause-begins
returns-then-not-added-clause-begins c =
    let same = none_put c.in_ok-at.added c.args.self.now.keys c.find_or_put.new.self c.args.key c.if-not-added.true c.in_ok-at.ensures.keys in
    let at : slice_get c.args.self.now.keys c.in_ok-at.at ≡ Some c.args.key = ap (λ (l : List Key). slice_get l c.in_ok-at.at) (sym same) ∙ c.in_ok-at.ensures.at in
    let long = c.requires.long in
    let few = c.in_ok-at.ensures.within in
    let within : c.in_ok-at.at < length c.args.self.now.found.items = let e = ap (λ (l : List Key). length l) same in omega arith in
    let known : slice_get c.args.self.now.found.items c.in_ok-at.at ≡ Some c.index.result.now =
    slice_get-get_or c.args.self.now.found.items c.in_ok-at.at c.index.result.now within ∙ ap (λ (o : Option Ref). Some o) (sym c.index.ensures) in
    inr (same, refl, at, known)

pub returns-clause-begins : goal.returns-clause-begins
returns-clause-begins c =
    inl (put_last c.in_ok-at.added c.args.self.now.keys c.find_or_put.new.self c.args.key c.if-not-added.false c.in_ok-at.ensures.keys, c.in_ok-push.ensures.items, c.in_ok-at.ensures.last c.if-not-added.false, refl)
