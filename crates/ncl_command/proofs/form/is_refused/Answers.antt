use Rattle.ncl_command.proofs.Terms.{List, None, Some, [], ap, arith, is_refused, is_refused_kind, length, lit<, ne_eqb, refl, strip_prefix_char, sym, ℕ, ◌==◌, ◌∙◌, ◌∷◌, ◌≡◌, ◌≢◌}
use Rattle.ncl_command.proofs.ArgumentKinds.{plain_kind, refused_kind}
use Rattle.ncl_command.proofs.form.is_refused.Goals as goal

-- an argument with no dash in front is refused where it is empty
undashed : (argument : List ℕ) → ((rest : List ℕ) → argument ≢ 45 ∷ rest) → (length argument == 0) ≡ is_refused argument
undashed [] no_dash = refl
undashed (byte ∷ rest) no_dash =
    ne_eqb (length (byte ∷ rest)) 0 (λ e. absurd (omega (arith, e)))
    ∙ sym (ap is_refused_kind (plain_kind (byte ∷ rest) no_dash (λ e. let none : length (byte ∷ rest) ≡ 0 = ap length e in absurd (omega arith))))

pub returns-in_default : goal.returns-in_default
returns-in_default c =
    c.is_empty.ensures ∙ undashed c.args.argument.now (strip_prefix_char 45 c.args.argument.now None c.in_default.ensures.cases (lit< tt))

pub returns-in-None : goal.returns-in-None
returns-in-None c =
    sym (ap is_refused_kind (refused_kind c.args.argument.now c.in-Some.dashed.now
    (strip_prefix_char 45 c.args.argument.now (Some c.in-Some.dashed) c.in-Some.ensures.cases (lit< tt))
    (strip_prefix_char 45 c.in-Some.dashed.now None c.in-None.ensures.cases (lit< tt))))
