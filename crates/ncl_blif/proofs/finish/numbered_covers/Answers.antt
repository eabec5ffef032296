use Rattle.ncl_blif.proofs.Terms.{Cover, NamedCover, [], ap, get_or, is_driven, length, map, map_more, numbered_cover, reads_undriven, subst, sym, take, true, without_rows, ◌++◌, ◌<◌, ◌∙◌, ◌∷◌, ◌≡◌}
use Rattle.ncl_blif.proofs.NumberedLaws.{own_driven}
use Rattle.ncl_blif.proofs.finish.numbered_covers.Goals as goal

pub numbered-requires-clause-drives : goal.numbered-requires-clause-drives
numbered-requires-clause-drives c =
    let covers : c.covers-cover-items.result.now ≡ c.args.draft.now.covers = c.covers-cover-items.ensures.covers in
    let driven = own_driven c.args.draft.now c.loop-cover.cover-index c.cover-item.result (subst (λ xs. c.loop-cover.cover-index < length xs) covers c.loop-cover-test.true) in
    subst (λ (cover : NamedCover). is_driven c.args.draft.now cover.out ≡ true)
    (ap (λ xs. get_or xs c.loop-cover.cover-index c.cover-item.result) (sym covers) ∙ sym c.cover-item.is) driven

pub loop-cover-preserved : goal.loop-cover-preserved
loop-cover-preserved c =
    let covers = c.covers-cover-items.result.now in
    let bare : NamedCover → Cover = λ cover. without_rows (numbered_cover c.args.draft.now cover) in
    c.in_ok-push.ensures.items ∙ ap (λ made. made ++ c.in_ok-numbered.field-0 ∷ []) c.loop-cover.invariant
    ∙ ap (λ one. map bare (take c.loop-cover.cover-index covers) ++ one ∷ []) (c.in_ok-numbered.ensures ∙ ap bare c.cover-item.is) ∙ sym (map_more bare covers c.loop-cover.cover-index c.cover-item.result c.loop-cover-test.true)

pub numbered-requires-clause-reads : goal.numbered-requires-clause-reads
numbered-requires-clause-reads c =
    let covers = c.covers-cover-items.ensures.covers in
    ap (reads_undriven c.args.draft.now) (c.cover-item.is ∙ ap (λ xs. get_or xs c.loop-cover.cover-index c.cover-item.result) covers)
    ∙ c.requires c.loop-cover.cover-index c.cover-item.result (subst (λ xs. c.loop-cover.cover-index < length xs) covers c.loop-cover-test.true)
