-- The gates of a node.
use Rattle.ncl_template.proofs.Terms.{AddsGate, AddsTemplate, Bool, Contains-from_Member, IsBelow, IsFormed, IsNull, IsTemplate, IsTwoGate, List, Member, Member-append_left, Member-from_Contains, NetId, Nets, Rails, ShowWord, Shows, Some, StageCell, Table, TableRow, [], ap, append_assoc, arith, choice, difference_row, difference_table, differs, false, here, holds, inl, inr, inverse_row, length, map, member_cases, not, out_of, rail_nets, refl, row_of, row_value, slice_get, subst, sym, table_of, table_value, there, true, ℕ, ◌++◌, ◌∙◌, ◌∷◌, ◌≡◌, ◌≤◌, ◌⊎◌}
use Rattle.ncl_template.proofs.TwoGates.{two_shown, two_null_first, two_null_second, two_arity, two_reads}
use Rattle.ncl_template.proofs.Leaves.{IsLeaf, ShowWord-length, shown_nets, one_of_pair, template_of_leaves}
use Rattle.ncl_template.proofs.InOrder.{AreInOrder, arities-in_order, IsInOrder-from}

-- ---- two inputs

pair_cases : (a b r : Rails) → Member r (a ∷ b ∷ []) → (a ≡ r) ⊎ (b ≡ r)
pair_cases a b _ here = inl refl
pair_cases a b r (there m) = elim (member_cases r b [] m) [ inl same ↦ inr same | inr rest ↦ elim rest [ ] ]

-- a gate over the pairs of two inputs is a leaf
two_leaf : (set : TableRow) (a b : Rails) (c : StageCell) → IsTwoGate set a b c → (at : List Bool → Bool) → ((x y : Bool) → row_value set (x ∷ y ∷ []) ≡ at (x ∷ y ∷ [])) → IsLeaf (a ∷ b ∷ []) (a ∷ b ∷ []) [] at c
two_leaf set a b c is at same = record {
  exact = λ base word obeys shown. exact base word shown;
  waits_for = λ base v word case r m null. waits base v word case.below case.shown r (Member-from_Contains (a ∷ b ∷ []) r m) null;
  observes = λ base v word case g m high low. elim (Member-from_Contains [] g m) [ ];
}
  where
    exact : (base : Nets) (word : List Bool) → ShowWord base (a ∷ b ∷ []) word → holds base c ≡ at word
    exact base [] shown = absurd shown
    exact base (x ∷ []) shown = absurd shown.1
    exact base (x ∷ y ∷ z ∷ word) shown = absurd shown.1.1
    exact base (x ∷ y ∷ []) shown =
        let first = shown_nets base a x shown.0 in
        let second = shown_nets base b y shown.1.0 in
        two_shown set a b c is base x y first.0 first.1 second.0 second.1 ∙ same x y

    waits : (base v : Nets) (word : List Bool) → IsBelow v base → ShowWord base (a ∷ b ∷ []) word → (r : Rails) → Member r (a ∷ b ∷ []) → IsNull v r → holds v c ≡ false
    waits base v [] below shown r m null = absurd shown
    waits base v (x ∷ []) below shown r m null = absurd shown.1
    waits base v (x ∷ y ∷ word) below shown r m null =
        elim (pair_cases a b r m) [
          | inl same ↦ two_null_first set a b c is v (subst (IsNull v) (sym same) null) (one_of_pair base v b y below shown.1.0)
          | inr same ↦ two_null_second set a b c is v (one_of_pair base v a x below shown.0) (subst (IsNull v) (sym same) null)
        ]

inverse_value : (row : TableRow) (x y : Bool) → row_value (inverse_row row) (x ∷ y ∷ []) ≡ not (row_value row (x ∷ y ∷ []))
inverse_value row true true = refl
inverse_value row true false = refl
inverse_value row false true = refl
inverse_value row false false = refl

module _ (row : TableRow) (a b : Rails) where
  two_formed : (c d : StageCell) → IsTwoGate (inverse_row row) a b c → IsTwoGate row a b d → IsFormed (a ∷ b ∷ []) (c ∷ d ∷ []) (record { zero = c.out; one = d.out })
  two_formed c d is_zero is_one =
      let order : AreInOrder (rail_nets (a ∷ b ∷ [])) (c ∷ d ∷ []) = (
        two_arity (inverse_row row) a b c is_zero,
        two_reads (inverse_row row) a b c is_zero,
        (
          two_arity row a b d is_one,
          λ net m. Member-append_left net.0 (out_of c ∷ []) (two_reads row a b d is_one net m),
          tt,
        ),
      ) in
      let first : Member (out_of c) (map out_of (c ∷ d ∷ [])) = here in
      let second : Member (out_of d) (map out_of (c ∷ d ∷ [])) = there here in
      record {
        arities = arities-in_order (rail_nets (a ∷ b ∷ [])) (c ∷ d ∷ []) order;
        in_order = IsInOrder-from (a ∷ b ∷ []) (c ∷ d ∷ []) order;
        zero_driven = Contains-from_Member (out_of c) first;
        one_driven = Contains-from_Member (out_of d) second;
      }

  pub AddsTemplate-two : (inverse : TableRow) (before now after : List StageCell) (zero one : NetId) → inverse ≡ inverse_row row → AddsGate (IsTwoGate inverse a b) before now zero → AddsGate (IsTwoGate row a b) now after one → AddsTemplate (row_value row) (a ∷ b ∷ []) (a ∷ b ∷ []) 2 before after (record { zero = zero; one = one })
  AddsTemplate-two inverse before now after zero one inverse_is first second =
      let is_zero : IsTwoGate (inverse_row row) a b first.cell = subst (λ row. IsTwoGate row a b first.cell) inverse_is first.is in
      let out : ◌≡◌ {A = Rails} (record { zero = first.cell.out; one = second.cell.out }) (record { zero = zero; one = one }) = λ i. record { zero = first.drives i; one = second.drives i } in
      record {
        made = first.cell ∷ second.cell ∷ [];
        added = second.added ∙ (λ i. first.added i ++ second.cell ∷ []) ∙ append_assoc before (first.cell ∷ []) (second.cell ∷ []);
        template = subst (IsTemplate (row_value row) (a ∷ b ∷ []) (a ∷ b ∷ []) (first.cell ∷ second.cell ∷ [])) out
            (template_of_leaves (row_value row) (a ∷ b ∷ []) (a ∷ b ∷ []) [] first.cell second.cell
            (two_leaf (inverse_row row) a b first.cell is_zero (λ word. not (row_value row word)) (inverse_value row))
            (two_leaf row a b second.cell second.is (row_value row) (λ x y. refl)));
        formed = subst (IsFormed (a ∷ b ∷ []) (first.cell ∷ second.cell ∷ [])) out (two_formed first.cell second.cell is_zero second.is);
        few = omega arith;
      }

-- ---- one function for another

-- a template of a function is one of another that has its values, and more gates may be allowed
AddsTemplate-same : (f g : List Bool → Bool) (ins : List Rails) (few most : ℕ) (before after : List StageCell) (out : Rails) → ((word : List Bool) → length word ≡ length ins → f word ≡ g word) → few ≤ most → AddsTemplate f ins ins few before after out → AddsTemplate g ins ins most before after out
AddsTemplate-same f g ins few most before after out same less adds = record {
  made = adds.made;
  added = adds.added;
  template = record {
    value = λ base word obeys shown. subst (Shows base out) (same word (ShowWord-length base ins word shown)) (adds.template.value base word obeys shown);
    needs = adds.template.needs;
    observed = adds.template.observed;
  };
  formed = adds.formed;
  few = omega (arith, adds.few, less);
}

difference_value : (a b : TableRow) (word : List Bool) → row_value (difference_row a b) word ≡ differs (row_value a) (row_value b) word
difference_value a b [] = refl
difference_value a b (x ∷ []) = refl
difference_value a b (true ∷ true ∷ word) = refl
difference_value a b (true ∷ false ∷ word) = refl
difference_value a b (false ∷ true ∷ word) = refl
difference_value a b (false ∷ false ∷ word) = refl

-- the gates that are given the difference of two tables show whether their functions differ
pub AddsTemplate-rows_differ : (a b row : TableRow) (ins : List Rails) (before after : List StageCell) (out : Rails) → row ≡ difference_row a b → AddsTemplate (row_value row) ins ins 2 before after out → AddsTemplate (differs (row_value a) (row_value b)) ins ins 2 before after out
AddsTemplate-rows_differ a b row ins before after out is adds =
    AddsTemplate-same (row_value row) (differs (row_value a) (row_value b)) ins 2 2 before after out (λ word len. ap (λ row. row_value row word) is ∙ difference_value a b word) (omega arith) adds

pub AddsTemplate-tables_differ : (a b table : Table) (ins : List Rails) (before after : List StageCell) (out : Rails) → table ≡ difference_table a b → AddsTemplate (table_value table) ins ins 8 before after out → AddsTemplate (differs (table_value a) (table_value b)) ins ins 8 before after out
AddsTemplate-tables_differ a b table ins before after out is adds =
    AddsTemplate-same (table_value table) (differs (table_value a) (table_value b)) ins 8 8 before after out (λ word len. ap (λ table. table_value table word) is ∙ value word) (omega arith) adds
  where
    value : (word : List Bool) → table_value (difference_table a b) word ≡ differs (table_value a) (table_value b) word
    value [] = refl
    value (true ∷ word) = difference_value a.high b.high word
    value (false ∷ word) = difference_value a.low b.low word

-- ---- the function of a node

two_value : (f : List Bool → Bool) (word : List Bool) → length word ≡ 2 → row_value (row_of f) word ≡ f word
two_value f [] len = absurd (omega (arith, len))
two_value f (x ∷ []) len = absurd (omega (arith, len))
two_value f (x ∷ y ∷ z ∷ word) len = absurd (omega (arith, len))
two_value f (true ∷ true ∷ []) len = refl
two_value f (true ∷ false ∷ []) len = refl
two_value f (false ∷ true ∷ []) len = refl
two_value f (false ∷ false ∷ []) len = refl

three_value : (f : List Bool → Bool) (word : List Bool) → length word ≡ 3 → table_value (table_of f) word ≡ f word
three_value f [] len = absurd (omega (arith, len))
three_value f (true ∷ word) len = two_value (λ word. f (true ∷ word)) word (omega (arith, len))
three_value f (false ∷ word) len = two_value (λ word. f (false ∷ word)) word (omega (arith, len))

four_value : (f : List Bool → Bool) (word : List Bool) → length word ≡ 4 → choice (table_value (table_of (λ word. f (false ∷ word)))) (table_value (table_of (λ word. f (true ∷ word)))) word ≡ f word
four_value f [] len = absurd (omega (arith, len))
four_value f (true ∷ word) len = three_value (λ word. f (true ∷ word)) word (omega (arith, len))
four_value f (false ∷ word) len = three_value (λ word. f (false ∷ word)) word (omega (arith, len))

-- ---- the inputs, one by one

two_pairs : (ins : List Rails) (a b : Rails) → length ins ≡ 2 → slice_get ins 0 ≡ Some a → slice_get ins 1 ≡ Some b → a ∷ b ∷ [] ≡ ins
two_pairs [] a b len at_a at_b = absurd (omega (arith, len))
two_pairs (x ∷ []) a b len at_a at_b = absurd (omega (arith, len))
two_pairs (x ∷ y ∷ []) a b len at_a at_b = cc
two_pairs (x ∷ y ∷ z ∷ ins) a b len at_a at_b = absurd (omega (arith, len))

three_pairs : (ins : List Rails) (a b c : Rails) → length ins ≡ 3 → slice_get ins 0 ≡ Some a → slice_get ins 1 ≡ Some b → slice_get ins 2 ≡ Some c → a ∷ b ∷ c ∷ [] ≡ ins
three_pairs [] a b c len at_a at_b at_c = absurd (omega (arith, len))
three_pairs (x ∷ ins) a b c len at_a at_b at_c = let first : a ≡ x = cc in (λ i. first i ∷ two_pairs ins b c (omega (arith, len)) at_b at_c i)

four_pairs : (ins : List Rails) (a b c d : Rails) → length ins ≡ 4 → slice_get ins 0 ≡ Some a → slice_get ins 1 ≡ Some b → slice_get ins 2 ≡ Some c → slice_get ins 3 ≡ Some d → a ∷ b ∷ c ∷ d ∷ [] ≡ ins
four_pairs [] a b c d len at_a at_b at_c at_d = absurd (omega (arith, len))
four_pairs (x ∷ ins) a b c d len at_a at_b at_c at_d = let first : a ≡ x = cc in (λ i. first i ∷ three_pairs ins b c d (omega (arith, len)) at_b at_c at_d i)

module _ (f : List Bool → Bool) (ins : List Rails) (before after : List StageCell) (out : Rails) where
  pub AddsTemplate-of_two : (row : TableRow) (a b : Rails) → length ins ≡ 2 → slice_get ins 0 ≡ Some a → slice_get ins 1 ≡ Some b → row ≡ row_of f → AddsTemplate (row_value row) (a ∷ b ∷ []) (a ∷ b ∷ []) 2 before after out → AddsTemplate f ins ins 2 before after out
  AddsTemplate-of_two row a b two at_a at_b is adds =
      AddsTemplate-same (row_value row) f ins 2 2 before after out
      (λ word len. ap (λ row. row_value row word) is ∙ two_value f word (len ∙ two))
      (omega arith) (subst (λ ins. AddsTemplate (row_value row) ins ins 2 before after out) (two_pairs ins a b two at_a at_b) adds)

  pub AddsTemplate-of_three : (table : Table) (a b c : Rails) → length ins ≡ 3 → slice_get ins 0 ≡ Some a → slice_get ins 1 ≡ Some b → slice_get ins 2 ≡ Some c → table ≡ table_of f → AddsTemplate (table_value table) (a ∷ b ∷ c ∷ []) (a ∷ b ∷ c ∷ []) 8 before after out → AddsTemplate f ins ins 12 before after out
  AddsTemplate-of_three table a b c three at_a at_b at_c is adds =
      AddsTemplate-same (table_value table) f ins 8 12 before after out
      (λ word len. ap (λ table. table_value table word) is ∙ three_value f word (len ∙ three))
      (omega arith) (subst (λ ins. AddsTemplate (table_value table) ins ins 8 before after out) (three_pairs ins a b c three at_a at_b at_c) adds)

  pub AddsTemplate-of_four : (low high : Table) (a b c d : Rails) → length ins ≡ 4 → slice_get ins 0 ≡ Some a → slice_get ins 1 ≡ Some b → slice_get ins 2 ≡ Some c → slice_get ins 3 ≡ Some d → low ≡ table_of (λ word. f (false ∷ word)) → high ≡ table_of (λ word. f (true ∷ word)) → AddsTemplate (choice (table_value low) (table_value high)) (a ∷ b ∷ c ∷ d ∷ []) (a ∷ b ∷ c ∷ d ∷ []) 20 before after out → AddsTemplate f ins ins 22 before after out
  AddsTemplate-of_four low high a b c d four at_a at_b at_c at_d low_is high_is adds =
      AddsTemplate-same (choice (table_value low) (table_value high)) f ins 20 22 before after out
      (λ word len. (λ i. choice (table_value (low_is i)) (table_value (high_is i)) word) ∙ four_value f word (len ∙ four))
      (omega arith) (subst (λ ins. AddsTemplate (choice (table_value low) (table_value high)) ins ins 20 before after out) (four_pairs ins a b c d four at_a at_b at_c at_d) adds)
