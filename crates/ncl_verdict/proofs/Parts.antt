-- What several threads heard of variants.
use Rattle.ncl_verdict.proofs.Terms.{AreSilent, Bool, List, None, Option, SharedData, Some, StageData, Variant, Verdict, ap, at_place, at_variant, cases_eq, false, get_or, get_or-set_other, inl, inr, length, option_and_then, option_and_then_some, said_at, set, slice_get-get_or, slice_get_within, stopped_within, subst, sym, true, ℕ, ◌<◌, ◌∙◌, ◌≡◌, ◌⊎◌}
use Rattle.std.proofs.Common.{slice_get}

-- what is marked where one is set was marked, or is that one
pub marked-set : (marks : List Bool) (at place : ℕ) → get_or (set marks at true) place false ≡ true → (get_or marks place false ≡ true) ⊎ (place ≡ at)
marked-set marks at place is =
    elim (cases_eq place at) [
      | inl same ↦ inr same
      | inr differs ↦ inl (sym (get_or-set_other marks at place true false differs) ∙ is)
    ]

module _ (shared : SharedData) where
  -- what is said at a place is what is said at the variant there
  pub place-variant : (place : ℕ) (d : Variant) → place < length shared.variants → at_place shared place ≡ said_at shared (get_or shared.variants place d)
  place-variant place d lt = ap (option_and_then (said_at shared)) (slice_get-get_or shared.variants place d lt)

  -- it is what is said at a variant of the same stage in a space with the same limit
  pub said-place : (limit : Option ℕ) → limit ≡ Some shared.limit → (s : StageData) → s ≡ shared.stage → (variants : List Variant) → variants ≡ shared.variants → (place : ℕ) (d : Variant) → place < length variants
      → (answer : Option Verdict) → answer ≡ at_variant (stopped_within limit) s (get_or variants place d) → at_place shared place ≡ answer
  said-place limit same s stage variants are place d lt answer is =
      place-variant place d (subst (λ xs. place < length xs) are lt) ∙ sym (is ∙ (λ i. at_variant (stopped_within (same i)) (stage i) (get_or (are i) place d)))

  -- something is said at a variant alone
  pub place-within : (place : ℕ) (verdict : Verdict) → at_place shared place ≡ Some verdict → place < length shared.variants
  place-within place verdict is = option_and_then_some (said_at shared) (slice_get shared.variants place) verdict is (λ variant there said. slice_get_within shared.variants place variant there)

  -- a place at which nothing is said is marked as well
  pub silent-more : (marks : List Bool) (at : ℕ) → AreSilent shared marks → at_place shared at ≡ None → AreSilent shared (set marks at true)
  silent-more marks at silent none place is =
      elim (marked-set marks at place is) [
        | inl was ↦ silent place was
        | inr same ↦ ap (at_place shared) same ∙ none
      ]

  -- nothing is said at a variant before so many that are marked
  pub silent-first : (marks : List Bool) (n place : ℕ) (d : Variant) → AreSilent shared marks → ((k : ℕ) → k < n → get_or marks k false ≡ true) → place < n → place < length shared.variants → said_at shared (get_or shared.variants place d) ≡ None
  silent-first marks n place d silent marked first lt = sym (place-variant place d lt) ∙ silent place (marked place first)
