use Rattle.ncl_blif.proofs.Terms.{[], ap, arith, eqb-true, length, length-map, map, subst, sym, ◌++◌, ◌-◌, ◌∙◌, ◌∷◌, ◌≡◌}
use Rattle.std.proofs.Common.{length-append}
use Rattle.ncl_blif.proofs.Counted.{AreRead, read-counted, read-empty, read-all}
use Rattle.ncl_blif.proofs.line.read_fields.Goals as goal

pub loop-rest-preserved-in_ok-push : goal.loop-rest-preserved-in_ok-push
loop-rest-preserved-in_ok-push c =
    let (said, fields, first, shorter, less) = c.in_ok-next.ensures in
    let old = map (λ field. field.now) c.loop-rest.fields.items in
    let many : c.len-then-len-before.result - c.len-before.result ≡ length said = omega (arith, ap length fields, length-append old said, length-map c.loop-rest.fields.items (λ field. field.now), length-map c.next_line.new.fields.items (λ field. field.now)) in
    let counts = c.in_ok-push.ensures.items ∙ ap (λ n. c.loop-rest.counts.items ++ record { number = c.loop-rest.number; fields = n } ∷ []) many in
    subst (λ ws. AreRead c.args.text.now ws c.push.new.self.items c.in_ok-next.next c.in_ok-next.left.now) (sym fields)
    (subst (λ cs. AreRead c.args.text.now (old ++ said) cs c.in_ok-next.next c.in_ok-next.left.now) (sym counts)
    (read-counted _ _ _ _ _ _ _ said c.loop-rest.invariant first shorter (omega (arith, many, c.if-len-before.true))))

pub loop-rest-preserved : goal.loop-rest-preserved
loop-rest-preserved c =
    let (said, fields, first, shorter, less) = c.in_ok-next.ensures in
    let old = map (λ field. field.now) c.loop-rest.fields.items in
    let none : length said ≡ 0 = omega (arith, c.if-len-before.false, ap length fields, length-append old said, length-map c.loop-rest.fields.items (λ field. field.now), length-map c.next_line.new.fields.items (λ field. field.now)) in
    subst (λ ws. AreRead c.args.text.now ws c.loop-rest.counts.items c.in_ok-next.next c.in_ok-next.left.now) (sym fields)
    (read-empty _ _ _ _ _ _ _ said c.loop-rest.invariant first shorter none)

pub returns : goal.returns
returns c = read-all _ _ _ _ _ c.loop-rest.invariant (eqb-true _ 0 (sym c.loop-rest-test.ensures))
