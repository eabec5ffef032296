use Rattle.ncl_blif.proofs.Terms.{Some, TwoDrivers, [], ap, arith, bytes_eq, cond, cover_of, cover_out, driver_at, err_from_is_err_and, inl, inr, is_driven, length, refl, said_by, sym, ⊎_elim, ◌++◌, ◌∙◌, ◌∷◌, ◌≡◌}
use Rattle.ncl_blif.specs.declared.drivers.Driver.TheVariants.{Cover}
use Rattle.ncl_blif.proofs.BodySteps.{driven-is, kept-cover}
use Rattle.ncl_blif.proofs.draft_body.DraftBody.add_cover.Goals as goal

pub returns-then-is_some : goal.returns-then-is_some
returns-then-is_some c =
    inr (inl (ap (is_driven (said_by c.args.self.now)) (sym (c.signal_driven-out.ensures ∙ ap cover_out c.head.ensures)) ∙ driven-is c.args.self.now c.requires.kept _ _ c.get.ensures ∙ sym c.is_some.ensures ∙ c.if-is_some.true, ap TwoDrivers (c.number.ensures ∙ ap (λ head. head.number) c.head-then-is_some.ensures)))

pub returns-in_err-cover : goal.returns-in_err-cover
returns-in_err-cover c =
    let alone = ap (is_driven (said_by c.args.self.now)) (sym (c.signal_driven-out.ensures ∙ ap cover_out c.head.ensures)) ∙ driven-is c.args.self.now c.requires.kept _ _ c.get.ensures ∙ sym c.is_some.ensures ∙ c.if-is_some.false in
    let p = err_from_is_err_and c.from_residual.result c.from_residual.ensures.1 in
    rw (p.1, p.2) (⊎_elim (λ memory. inl memory) (λ fault. inr (inr (alone, fault))) c.in_err-cover.ensures)

pub returns : goal.returns
returns c =
    let cover = cover_of c.args.part.now in
    let out = c.signal_driven-out.ensures ∙ ap cover_out c.head.ensures in
    let alone = ap (is_driven (said_by c.args.self.now)) (sym out) ∙ driven-is c.args.self.now c.requires.kept _ _ c.get.ensures ∙ sym c.is_some.ensures ∙ c.if-is_some.false in
    let count : c.len.result ≡ length c.args.self.now.covers.items = omega (arith, c.len.ensures, c.args.self.now.covers.ok.0) in
    let items = c.in_ok-push.ensures.items ∙ ap (λ more. c.args.self.now.covers.items ++ more ∷ []) c.in_ok-cover.ensures.1 in
    let kept = kept-cover c.args.self.now _ cover c.requires.kept alone items refl refl
    (λ q. c.in_ok-put.ensures q ∙ (λ i. cond (bytes_eq (out i) q) (Some (Cover (count i))) (driver_at c.args.self.now.drivers q))) in
    (kept.0, kept.1, alone, c.in_ok-cover.ensures.0)
