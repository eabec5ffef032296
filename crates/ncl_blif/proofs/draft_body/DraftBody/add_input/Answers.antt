use Rattle.ncl_blif.proofs.Terms.{Input, Some, ap, arith, bytes_eq, cond, driver_at, false, inr, is_driven, length, length-map, map, map_push, refl, said_by, sym, ◌∙◌, ◌≡◌}
use Rattle.ncl_blif.proofs.BodySteps.{driven-is, kept-input}
use Rattle.ncl_blif.proofs.draft_body.DraftBody.add_input.Goals as goal

pub returns-then-is_some : goal.returns-then-is_some
returns-then-is_some c =
    inr (refl, driven-is c.args.self.now c.requires.kept c.args.name.now _ c.get.ensures ∙ sym c.is_some.ensures ∙ c.if-is_some.true)

pub returns : goal.returns
returns c =
    let alone : is_driven (said_by c.args.self.now) c.args.name.now ≡ false =
    driven-is c.args.self.now c.requires.kept c.args.name.now _ c.get.ensures ∙ sym c.is_some.ensures ∙ c.if-is_some.false in
    let count : c.len.result ≡ length (said_by c.args.self.now).inputs = omega (arith, c.len.ensures, c.args.self.now.inputs.ok.0, length-map c.args.self.now.inputs.items (λ name. name.now)) in
    let items = ap (map (λ name. name.now)) c.in_ok-push.ensures.items ∙ map_push (λ name. name.now) c.args.self.now.inputs.items c.args.name in
    kept-input c.args.self.now _ c.args.name.now c.requires.kept alone items refl refl
    (λ q. c.in_ok-put.ensures q ∙ ap (λ n. cond (bytes_eq c.args.name.now q) (Some (Input n)) (driver_at c.args.self.now.drivers q)) count)
