use Rattle.ncl_space.proofs.Terms.{AreTables, IsRow, List, PlainData, arith, refl, row_table, subst, sym, tables_in, ℕ, ◌+◌, ◌^◌, ◌∙◌, ◌≤◌}
use Rattle.ncl_space.proofs.RowLaws.{AreTables-push, length-row_table}
use Rattle.ncl_space.proofs.PlainLaws.{IsPlain-view, Keeps-put, Keeps-same, length-view, pushed-view}
use Rattle.ncl_space.proofs.plain.Plain.push_row.Goals as goal

pub invariant_of-self-2 : goal.invariant_of-self-2
invariant_of-self-2 c =
    let row : IsRow c.self.inside.width c.args.row.now = subst (λ (p : PlainData). IsRow p.width c.args.row.now) (sym c.self.view_is) c.requires in
    let n : ℕ = c.self.inside.width in
    let room : c.self.inside.count + 3 ≤ 2 ^ 32 = omega arith in
    subst (λ (words : List ℕ). AreTables n c.self.inside.stride (c.self.inside.count + 1) words) (sym c.in_ok-extend_from_slice.ensures.items)
    (AreTables-push n c.self.inside.stride c.self.inside.count c.self.inside.words.items c.args.row.now (row_table n c.args.row.now 0) c.self.invariant (length-row_table n c.args.row.now 0) row room)

pub returns-clause-place : goal.returns-clause-place
returns-clause-place c = omega (arith, length-view c.self.inside.width c.self.inside.count c.self.inside.words.items c.args.self.now c.self.view_is)

pub returns-clause-pushed : goal.returns-clause-pushed
returns-clause-pushed c =
    (λ t. record { width = c.self.inside.width; tables = tables_in c.self.inside.width (c.self.inside.count + 1) (c.in_ok-extend_from_slice.ensures.items t) })
    ∙ pushed-view c.self.inside.width c.self.inside.stride c.self.inside.count c.self.inside.words.items c.args.row.now c.args.self.now c.self.invariant c.self.view_is

pub returns-then-self-clause-kept : goal.returns-then-self-clause-kept
returns-then-self-clause-kept c = Keeps-same c.args.self.now c.args.self.now (IsPlain-view _ _ _ _ c.args.self.now c.self.invariant c.self.view_is) refl

pub returns-in_err-extend_from_slice-clause-kept : goal.returns-in_err-extend_from_slice-clause-kept
returns-in_err-extend_from_slice-clause-kept c =
    Keeps-same c.args.self.now _ (IsPlain-view _ _ _ _ c.args.self.now c.self.invariant c.self.view_is)
    ((λ t. record { width = c.self.inside.width; tables = tables_in c.self.inside.width c.self.inside.count (c.in_err-extend_from_slice.ensures.items t) }) ∙ c.self.view_is)

pub returns-clause-kept : goal.returns-clause-kept
returns-clause-kept c =
    let p : PlainData = c.args.self.now in
    Keeps-put p _ (row_table p.width c.args.row.now 0) (IsPlain-view _ _ _ _ p c.self.invariant c.self.view_is) (length-row_table p.width c.args.row.now 0) (returns-clause-pushed c)
