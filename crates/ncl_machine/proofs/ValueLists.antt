-- Values as a list and as a function.
use Rattle.ncl_machine.proofs.Terms.{Bool, List, ap, cases_eq, cond, eq-eqb, false, fun_ext, get_or-set_other, get_or-set_same, inl, inr, length, ne_eqb, net_values, refl, set, subst, sym, with_net, ℕ, ◌<◌, ◌∙◌, ◌≡◌}

-- a write to the list is a write to the function
pub net_values-set : (values : List Bool) (net : ℕ) (value : Bool) → net < length values → net_values (set values net value) ≡ with_net (net_values values) net value
net_values-set values net value within = fun_ext (λ k. elim (cases_eq net k) [
  | inl e ↦
      subst (λ z. net_values (set values net value) z ≡ with_net (net_values values) net value z) e
      (get_or-set_same values net value false within ∙ sym (ap (λ t. cond t value (net_values values net)) (eq-eqb net net refl)))
  | inr apart ↦ get_or-set_other values net k value false (λ q. apart (sym q)) ∙ sym (ap (λ t. cond t value (net_values values k)) (ne_eqb net k apart))
])
