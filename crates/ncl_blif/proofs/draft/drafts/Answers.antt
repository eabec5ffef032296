use Rattle.ncl_blif.proofs.Terms.{AreCounted, List, MatchResult, None, OutOfMemory, PartData, Some, ap, arith, drivers_of, err_from_is_err_and, first_line_fault, first_section_fault, inr, length, lines_of, map, models_said, named_model, parts_of, sections_of, subst, sym, ◌∙◌, ◌≡◌, ◌⊎◌}
use Rattle.ncl_blif.proofs.ModelSizes.{drivers-size}
use Rattle.ncl_blif.proofs.draft.drafts.Goals as goal

pub drafts_of-requires : goal.drafts_of-requires
drafts_of-requires c =
    let text = c.args.text.now in
    let counted = subst (λ ws. AreCounted (lines_of text) (map (λ field. field.now) ws) c.in_ok-fields.counts.items) (sym c.deref.ensures.value) c.in_ok-fields.ensures in
    let lines = c.deref-3.ensures.value ∙ c.in_ok-lines.ensures (lines_of text) counted in
    let parts = c.deref-4.ensures.value ∙ c.in_ok-parts.ensures ∙ ap parts_of lines in
    omega (arith, drivers-size text, ap (λ ps. length (drivers_of (named_model ps))) parts, c.requires)

pub returns-in_err-begin : goal.returns-in_err-begin
returns-in_err-begin c =
    let text = c.args.text.now in
    let counted = subst (λ ws. AreCounted (lines_of text) (map (λ field. field.now) ws) c.in_ok-fields.counts.items) (sym c.deref.ensures.value) c.in_ok-fields.ensures in
    let lines = c.deref-2.ensures.value ∙ c.in_ok-lines.ensures (lines_of text) counted in
    let p = err_from_is_err_and c.from_residual-in_err-begin.result c.from_residual-in_err-begin.ensures.1 in
    rw (p.1, p.2) (inr (ap first_line_fault (sym lines) ∙ c.in_err-begin.ensures))

pub returns : goal.returns
returns c =
    let text = c.args.text.now in
    let counted = subst (λ ws. AreCounted (lines_of text) (map (λ field. field.now) ws) c.in_ok-fields.counts.items) (sym c.deref.ensures.value) c.in_ok-fields.ensures in
    let made = c.in_ok-lines.ensures (lines_of text) counted in
    let lines = c.deref-2.ensures.value ∙ made in
    let parts = c.deref-4.ensures.value ∙ c.in_ok-parts.ensures ∙ ap parts_of (c.deref-3.ensures.value ∙ made) in
    let begun : first_line_fault (lines_of text) ≡ first_section_fault (sections_of (parts_of (lines_of text))) = ap first_line_fault (sym lines) ∙ c.in_ok-begin.ensures ∙ ap (λ ls. first_section_fault (sections_of (parts_of ls))) lines in
    subst (λ found. MatchResult c.drafts_of.result (λ drafts. (found ≡ None) × (drafts.items ≡ models_said text)) (λ fault. (fault ≡ OutOfMemory) ⊎ (found ≡ Some fault))) (sym begun)
    (subst (λ (ps : List PartData). MatchResult c.drafts_of.result (λ drafts. (first_section_fault (sections_of ps) ≡ None) × (drafts.items ≡ map named_model (sections_of ps)))
    (λ fault. (fault ≡ OutOfMemory) ⊎ (first_section_fault (sections_of ps) ≡ Some fault))) parts c.drafts_of.ensures)
