-- Where a question passes the limit.
use Rattle.ncl_hazard.proofs.Terms.{Base, IsNew, Keeps, List, Ok, OnOk, Result, Some, SpaceData, StageData, Variant, [], ap, arith, ascending, bead_count, count_of_both, false, fits, fits-along, is_within, length, nat_le, nat_tests, net_tables_by, question_count, sym, tables_by, too_much_by_front, true, with_tables, ℕ, ◌++◌, ◌<◌, ◌∙◌, ◌≡◌, ◌≤◌}
use Rattle.std.specs.Prelude.{Err}

le-from : (x y : ℕ) → nat_le x y ≡ true → x ≤ y
le-from x y e = grind (arith, nat_tests)

over-from : (x y : ℕ) → nat_le x y ≡ false → y < x
over-from x y e = grind (arith, nat_tests)

-- what follows from a fact that is told with Ok
pub OnOk-more : {X E : Type 0} (r : Result X E) (A B : Type 0) → (A → B) → OnOk r A → OnOk r B
OnOk-more (Ok x) A B f h = f h
OnOk-more (Err e) A B f h = h

module _ (a : SpaceData) (s : StageData) (variant : Variant) (limit : ℕ) (width : a.width ≡ length s.inputs) (bound : a.limit ≡ Some limit) (new : IsNew a) (order : List ℕ) (ordered : order ≡ ascending s) where
  fits-all : fits a (net_tables_by order s Base ++ tables_by order s variant) ≡ nat_le (question_count s variant) limit
  fits-all =
      ap (is_within a.limit) (count_of_both a [] (net_tables_by order s Base ++ tables_by order s variant) new.held ∙ ap (λ n. bead_count n (net_tables_by order s Base ++ tables_by order s variant)) width)
      ∙ ap (λ l. is_within l (bead_count (length s.inputs) (net_tables_by order s Base ++ tables_by order s variant))) bound
      ∙ ap (λ o. nat_le (bead_count (length s.inputs) (net_tables_by o s Base ++ tables_by o s variant)) limit) ordered

  -- at the nets
  pub nets_over : fits a (net_tables_by order s Base) ≡ false → limit < question_count s variant
  nets_over e = over-from (question_count s variant) limit (sym fits-all ∙ too_much_by_front a (net_tables_by order s Base) (tables_by order s variant) e)

  -- and at what is asked at the variant
  module _ (b : SpaceData) (keeps : Keeps a b) (held : b.held ≡ with_tables a (net_tables_by order s Base)) where
    pub all_over : fits b (tables_by order s variant) ≡ false → limit < question_count s variant
    all_over e = over-from (question_count s variant) limit (sym fits-all ∙ sym (fits-along a b (net_tables_by order s Base) (tables_by order s variant) keeps held) ∙ e)

    pub all_few : fits b (tables_by order s variant) ≡ true → question_count s variant ≤ limit
    all_few e = le-from (question_count s variant) limit (sym fits-all ∙ sym (fits-along a b (net_tables_by order s Base) (tables_by order s variant) keeps held) ∙ e)
