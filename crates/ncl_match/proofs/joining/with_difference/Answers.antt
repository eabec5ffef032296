use Rattle.ncl_match.proofs.AnswerLaws.{DiffersAt, IsOver, IsRunAnswer, joined-differ-full, joined-differ-same, joined-first, joined-second, length, one_width, subst, sym, ◌∙◌, ◌≡◌}
use Rattle.ncl_match.proofs.joining.with_difference.Goals as goal

pub returns-in-Same : goal.returns-in-Same
returns-in-Same c = λ circuit models limit low middle high first_le second_le first second.
    joined-differ-same (IsOver circuit models limit) (DiffersAt circuit models) low middle high first_le second_le c.args.word c.args.output first (subst (IsRunAnswer circuit models limit middle high) c.in-Same.is second)

pub returns-in-Full : goal.returns-in-Full
returns-in-Full c = λ circuit models limit low middle high first_le second_le first second.
    joined-differ-full (IsOver circuit models limit) (DiffersAt circuit models) low middle high first_le second_le c.args.word c.args.output c.in-Full.later first (subst (IsRunAnswer circuit models limit middle high) c.in-Full.is second)

pub returns-then-is_before : goal.returns-then-is_before
returns-then-is_before c = λ circuit models limit low middle high first_le second_le first second.
    let after = subst (IsRunAnswer circuit models limit middle high) c.in-Differ.is second in
    let wide : length c.in-Differ.other ≡ length c.args.word = one_width circuit models limit c.in-Differ.later c.args.output c.in-Differ.other c.args.word after.1.here first.1.here in
    joined-second (IsOver circuit models limit) (DiffersAt circuit models) low middle high first_le second_le c.args.word c.in-Differ.other c.args.output c.in-Differ.later ((c.is_before.ensures wide).0 c.if-is_before.true) first after

pub returns-else-is_before : goal.returns-else-is_before
returns-else-is_before c = λ circuit models limit low middle high first_le second_le first second.
    let after = subst (IsRunAnswer circuit models limit middle high) c.in-Differ.is second in
    let wide : length c.in-Differ.other ≡ length c.args.word = one_width circuit models limit c.in-Differ.later c.args.output c.in-Differ.other c.args.word after.1.here first.1.here in
    joined-first (IsOver circuit models limit) (DiffersAt circuit models) low middle high first_le second_le c.args.word c.in-Differ.other c.args.output c.in-Differ.later
    (λ h. let no = sym c.if-is_before.false ∙ (c.is_before.ensures wide).1 h in absurd cc) first after
