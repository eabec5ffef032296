use Rattle.ncl_stage.proofs.Terms.{Bool, List, ap, arith, drop, get_or, get_or-drop, length, length-drop, sym, take, take_rest, true, ℕ, ◌+◌, ◌-◌, ◌∙◌, ◌≡◌, ◌≤◌}
use Rattle.ncl_stage.proofs.changes.next_waiting.Goals as goal

-- a mark behind a place among those behind it
shifted : (marks : List Bool) (from other : ℕ) → from ≤ other → get_or marks other true ≡ get_or (take (length marks - from) (drop from marks)) (other - from) true
shifted marks from other after =
    let at : from + (other - from) ≡ other = omega (arith, after) in
    sym (ap (λ l. get_or l (other - from) true) (take_rest marks from) ∙ get_or-drop from marks (other - from) true ∙ ap (λ n. get_or marks n true) at)

size : (marks : List Bool) (from : ℕ) → length (take (length marks - from) (drop from marks)) ≡ length marks - from
size marks from = ap length (take_rest marks from) ∙ length-drop from marks

pub returns-in-None : goal.returns-in-None
returns-in-None c = λ other after lt.
    let many = size c.args.marks.now c.args.from in
    shifted c.args.marks.now c.args.from other after ∙ c.in-None.ensures (other - c.args.from) (omega (arith, many, after, lt))

pub returns-in-Some : goal.returns-in-Some
returns-in-Some c =
    let many = size c.args.marks.now c.args.from in (
      omega arith,
      omega (arith, many, c.in-Some.ensures.0),
      λ other after before. shifted c.args.marks.now c.args.from other after ∙ c.in-Some.ensures.1 (other - c.args.from) (omega (arith, after, before)),
    )
