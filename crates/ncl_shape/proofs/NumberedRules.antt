-- Rules that are asked one after the other, each with its number, from 1.
use Rattle.ncl_shape.proofs.Terms.{List, ap, arith, cases_lt, get_or, inl, inr, subst, sym, ℕ, ◌+◌, ◌-◌, ◌<◌, ◌∙◌, ◌≡◌}

module _ (Rule : Type 0) (number : Rule → ℕ) (Holds : Rule → Type 0) where
  -- the rules below a number hold
  abbrev pub HoldBelow : ℕ → Type 0
  HoldBelow limit = (r : Rule) → number r < limit → Holds r

  -- where a list has each rule at its place
  module _ (rules : List Rule) (first : Rule) (placed : (r : Rule) → get_or rules (number r - 1) first ≡ r) where
    -- nothing is asked before the first
    pub none_below : number (get_or rules 0 first) ≡ 1 → HoldBelow 1
    none_below starts r lt =
        let at_start : number r - 1 ≡ 0 = omega (arith, lt) in
        let same : get_or rules 0 first ≡ r = subst (λ place. get_or rules place first ≡ r) at_start (placed r) in
        let one : number r ≡ 1 = subst (λ q. number q ≡ 1) same starts in
        absurd (omega (arith, lt, one))

    -- one rule more
    pub one_more_below : (r : Rule) → Holds r → HoldBelow (number r) → HoldBelow (number r + 1)
    one_more_below r holds below q lt =
        elim (cases_lt (number q) (number r)) [
          | inl less ↦ below q less
          | inr most ↦
              let level : number r ≡ number q = omega (arith, lt, most) in
              subst Holds (sym (placed r) ∙ ap (λ number. get_or rules (number - 1) first) level ∙ placed q) holds
        ]
