use Rattle.ncl_verdict.proofs.Terms.{Bool, IfSome, List, Some, ap, at_place, false, get_or, inl, inr, subst, sym, ◌∙◌, ◌≡◌}
use Rattle.ncl_verdict.proofs.sharing.together.Goals as goal

pub returns : goal.returns
returns c = λ shared one other. record {
  silent = λ place is. elim (c.mark_also.ensures place is) [ inl was ↦ one.silent place was | inr is ↦ other.silent place (sym (ap (λ (marks : List Bool). get_or marks place false) c.as_slice.ensures.value) ∙ is) ];
  said = elim c.earlier-said.ensures [
    | inl same ↦ subst (λ said. IfSome said (λ told. at_place shared told.0 ≡ Some told.1)) (sym same) one.said
    | inr same ↦ subst (λ said. IfSome said (λ told. at_place shared told.0 ≡ Some told.1)) (sym same) other.said
  ];
}
